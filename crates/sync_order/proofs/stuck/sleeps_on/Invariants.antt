use Rattle.std.proofs.Common.{◌≡◌, take}
use Rattle.sync_order.specs.Stuck.{sleeps_on}
use Rattle.sync_order.proofs.stuck.sleeps_on.Given as goal

abbrev pub invariant-loop-number : goal.invariant-loop-number
invariant-loop-number l = l.literals.items ≡ sleeps_on l.events (take l.number l.sleeps) l.thread l.step
