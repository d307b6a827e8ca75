use Rattle.std.proofs.Common.{◌≡◌, map, take}
use Rattle.mutex_clauses.specs.steps.helpers.Over.{step_over}
use Rattle.mutex_clauses.proofs.steps.steps.Log.steps.Given as goal

abbrev pub invariant-loop-region : goal.invariant-loop-region
invariant-loop-region l =
    let s = l.self in
    l.steps.items
    ≡ map (step_over s.symbolic.now s.terms.now s.conjuncts s.variables.now s.accesses.now) (take l.region-index l.regions)
