use Rattle.std.proofs.Common.{◌≡◌, ◌++◌, take}
use Rattle.cnf_core.specs.helpers.Layout.{all_now}
use Rattle.cnf_core.proofs.cnf.Cnf.push_all.Given as goal

abbrev pub invariant-loop-clause : goal.invariant-loop-clause
invariant-loop-clause l = record {
  vars : l.self.vars ≡ l.initial.self.vars;
  clauses : l.self.clauses ≡ l.initial.self.clauses ++ all_now
      (take l.clause-index l.clauses);
}
