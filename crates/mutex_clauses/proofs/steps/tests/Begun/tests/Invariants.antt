use Rattle.std.proofs.Common.{◌≡◌, take}
use Rattle.mutex_clauses.specs.steps.helpers.Over as spec
use Rattle.mutex_clauses.proofs.steps.tests.Begun.tests.Given as goal

abbrev pub invariant-loop-number : goal.invariant-loop-number
invariant-loop-number l =
    l.kept.items ≡ take 16 (spec.all_tested l.self.terms.now l.self.loads.now l.self.first l.self.begin (take l.number l.tests))
