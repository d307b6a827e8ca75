use Rattle.std.proofs.Common.{◌≡◌, false, take}
use Rattle.cnf_core.specs.Clauses.{clause_true, value_in}
use Rattle.dimacs_text.proofs.falsified.is_true.Given as goal

abbrev pub invariant-loop-lit : goal.invariant-loop-lit
invariant-loop-lit l = clause_true (value_in l.assignment) (take l.lit-index l.clause) ≡ false
