use Rattle.std.proofs.Common.{◌≡◌, ◌-◌, ◌^◌, min, take}
use Rattle.std.specs.List.{sum_by}
use Rattle.mutex_regions.proofs.variables.fits.Given as goal

abbrev pub invariant-loop-other : goal.invariant-loop-other
invariant-loop-other l = l.cells ≡ min (sum_by (λ u. u.cells) (take l.other-index l.variables)) (2 ^ 32 - 1)
