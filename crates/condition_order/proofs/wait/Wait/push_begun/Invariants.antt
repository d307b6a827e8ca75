use Rattle.std.proofs.Common.{◌≡◌, ◌++◌, take, map}
use Rattle.condition_order.specs.Conditions.{begun}
use Rattle.condition_order.proofs.wait.Wait.push_begun.Given as goal

abbrev pub invariant-loop-ender : goal.invariant-loop-ender
invariant-loop-ender l = l.conjuncts.items ≡ l.fn.conjuncts.items ++ map (begun l.self) (take l.ender-index l.enders)
