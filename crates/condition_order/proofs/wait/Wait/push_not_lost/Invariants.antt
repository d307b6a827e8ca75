use Rattle.std.proofs.Common.{◌≡◌, ◌++◌, take, map}
use Rattle.condition_order.specs.Conditions.{not_lost}
use Rattle.condition_order.proofs.wait.Wait.push_not_lost.Given as goal

abbrev pub invariant-loop-ender : goal.invariant-loop-ender
invariant-loop-ender l = l.conjuncts.items ≡ l.fn.conjuncts.items ++ map (not_lost l.self l.enders l.sleeps) (take l.ender-index l.enders)
