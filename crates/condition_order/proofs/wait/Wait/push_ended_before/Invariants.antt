use Rattle.std.proofs.Common.{◌≡◌, ◌++◌, take, map}
use Rattle.condition_order.specs.Conditions.{ended_before}
use Rattle.condition_order.proofs.wait.Wait.push_ended_before.Given as goal

abbrev pub invariant-loop-ender : goal.invariant-loop-ender
invariant-loop-ender l = l.conjuncts.items ≡ l.fn.conjuncts.items ++ map (ended_before l.self l.wake) (take l.ender-index l.enders)
