use Rattle.std.proofs.Common.{◌≡◌, true, take}
use Rattle.cnf_core.specs.Clauses.{satisfies, value_in}
use Rattle.dimacs_text.proofs.falsified.first_false.Given as goal

abbrev pub invariant-loop-place : goal.invariant-loop-place
invariant-loop-place l = satisfies (value_in l.assignment) (take l.place l.cnf.clauses) ≡ true
