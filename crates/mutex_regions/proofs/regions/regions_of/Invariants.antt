use Rattle.std.proofs.Common.{◌≡◌, take, ◌==◌}
use Rattle.std.specs.Prelude.{filter}
use Rattle.mutex_regions.proofs.regions.regions_of.Given as goal

abbrev pub invariant-loop-region : goal.invariant-loop-region
invariant-loop-region l = l.own.items ≡ filter (λ r. r.it.mutex == l.mutex) (take l.region-index l.region-items)
