use Rattle.std.proofs.Common.{◌≡◌, take}
use Rattle.condition_order.specs.Conditions.{sleeps_on}
use Rattle.condition_order.proofs.wait.sleeps_on.Given as goal

abbrev pub invariant-loop-wait : goal.invariant-loop-wait
invariant-loop-wait l = l.sleeps.items ≡ sleeps_on (take l.wait-index l.waits) l.condition
