use Rattle.std.proofs.Common.{◌≡◌, take}
use Rattle.mutex_clauses.specs.steps.helpers.Over as spec
use Rattle.mutex_clauses.proofs.steps.tests.count_tests.Given as goal

abbrev pub invariant-loop-course : goal.invariant-loop-course
invariant-loop-course l = l.count ≡ spec.count_tests (take l.course-index l.threads)
