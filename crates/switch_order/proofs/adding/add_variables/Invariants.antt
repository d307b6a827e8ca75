use Rattle.std.proofs.Common.{◌≡◌, ◌+◌}
use Rattle.switch_order.proofs.adding.add_variables.Given as goal

abbrev pub invariant-loop : goal.invariant-loop
invariant-loop l = record {
  vars : l.cnf.vars ≡ l.initial.cnf.vars + l.counter;
  clauses : l.cnf.clauses ≡ l.initial.cnf.clauses;
}
