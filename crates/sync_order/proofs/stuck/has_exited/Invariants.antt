use Rattle.std.proofs.Common.{◌≡◌, false, take}
use Rattle.sync_order.specs.Stuck.{has_exited}
use Rattle.sync_order.proofs.stuck.has_exited.Given as goal

abbrev pub invariant-loop-walk : goal.invariant-loop-walk
invariant-loop-walk l = has_exited (take l.walk-index l.threads) l.parent l.number ≡ false
