use Rattle.std.proofs.Common.{◌≡◌, sum_by, take}
use Rattle.mutex_states.specs.Sizes.{shape_size}
use Rattle.mutex_clauses.specs.helpers.Counted.{counted}
use Rattle.mutex_clauses.proofs.sizes.shapes_size.Given as goal

abbrev pub invariant-loop-shape : goal.invariant-loop-shape
invariant-loop-shape l = l.size ≡ counted (sum_by (shape_size l.regions) (take l.shape-index l.shapes))
