use Rattle.std.proofs.Common.{◌≡◌, true, take}
use Rattle.cnf_core.specs.Clauses.{satisfies, value_in}
use Rattle.cnf_core.proofs.assignment.satisfies.Given as goal

abbrev pub invariant-loop-place : goal.invariant-loop-place
invariant-loop-place l = satisfies (value_in l.assignment) (take l.place l.cnf.clauses) ≡ true
