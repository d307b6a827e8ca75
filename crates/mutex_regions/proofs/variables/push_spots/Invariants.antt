use Rattle.std.proofs.Common.{◌≡◌, ◌++◌, map}
use Rattle.std.specs.List.{range_with_len}
use Rattle.mutex_regions.proofs.variables.push_spots.Given as goal

abbrev pub invariant-loop-index : goal.invariant-loop-index
invariant-loop-index l =
    l.spots.items ≡ l.fn.spots.items ++ map (λ k. record { variable = l.variable; index = k }) (range_with_len 0 l.index)
