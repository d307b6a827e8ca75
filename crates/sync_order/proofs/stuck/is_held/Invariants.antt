use Rattle.std.proofs.Common.{◌≡◌, false, take}
use Rattle.sync_order.specs.Stuck.{is_held}
use Rattle.sync_order.proofs.stuck.is_held.Given as goal

abbrev pub invariant-loop-walk : goal.invariant-loop-walk
invariant-loop-walk l = is_held (take l.walk-index l.threads) l.mutex ≡ false
