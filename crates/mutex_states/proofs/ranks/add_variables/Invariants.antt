use Rattle.std.proofs.Common.{◌≡◌, ◌+◌}
use Rattle.mutex_states.proofs.ranks.add_variables.Given as goal

abbrev pub invariant-loop : goal.invariant-loop
invariant-loop l = record {
  vars : l.circuit.vars ≡ l.initial.circuit.vars + l.counter;
  clauses : l.circuit.clauses ≡ l.initial.circuit.clauses;
}
