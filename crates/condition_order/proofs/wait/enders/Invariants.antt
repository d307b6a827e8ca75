use Rattle.std.proofs.Common.{◌≡◌, take}
use Rattle.condition_order.specs.Conditions.{enders}
use Rattle.condition_order.proofs.wait.enders.Given as goal

abbrev pub invariant-loop-number : goal.invariant-loop-number
invariant-loop-number l = l.found.items ≡ enders (take l.number l.placed-items) l.condition
