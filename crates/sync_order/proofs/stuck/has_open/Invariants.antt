use Rattle.std.proofs.Common.{◌≡◌, false, take}
use Rattle.std.specs.List.{list_any}
use Rattle.sync_order.specs.Stuck.{is_open}
use Rattle.sync_order.proofs.stuck.has_open.Given as goal

abbrev pub invariant-loop-region : goal.invariant-loop-region
invariant-loop-region l = list_any (is_open l.mutex) (take l.region-index l.regions) ≡ false
