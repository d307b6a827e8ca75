use Rattle.std.proofs.Common.{◌≡◌, sum_by, take}
use Rattle.mutex_states.specs.Sizes.{region_size}
use Rattle.mutex_clauses.specs.helpers.Counted.{counted}
use Rattle.mutex_clauses.proofs.sizes.regions_size.Given as goal

abbrev pub invariant-loop-step : goal.invariant-loop-step
invariant-loop-step l = l.size ≡ counted (sum_by region_size (take l.step-index l.steps))
