use Rattle.std.proofs.Common.{◌≡◌, false, take}
use Rattle.cnf_core.specs.Clauses.{clause_true, value_in}
use Rattle.cnf_core.proofs.assignment.Assignment.is_clause_true.Given as goal

abbrev pub invariant-loop-lit : goal.invariant-loop-lit
invariant-loop-lit l = clause_true (value_in l.self) (take l.lit-index l.clause) ≡ false
