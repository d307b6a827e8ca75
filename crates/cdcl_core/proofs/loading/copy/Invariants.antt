use Rattle.std.proofs.Common.{◌≡◌, take}
use Rattle.cdcl_core.proofs.loading.copy.Given as goal

abbrev pub invariant-loop-place : goal.invariant-loop-place
invariant-loop-place l = record {
  vars : l.copy.vars ≡ l.cnf.vars;
  clauses : l.copy.clauses ≡ take l.place l.cnf.clauses;
}
