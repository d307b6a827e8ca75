use Rattle.std.proofs.Common.{◌≡◌, take}
use Rattle.condition_order.specs.Conditions.{waits}
use Rattle.condition_order.proofs.wait.waits.Given as goal

abbrev pub invariant-loop-number : goal.invariant-loop-number
invariant-loop-number l = l.all.items ≡ waits l.events (take l.number l.placed-items)
