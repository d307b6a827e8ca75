use Rattle.std.proofs.Common.{◌≡◌, ◌++◌, take}
use Rattle.std.specs.List.{flat_map}
use Rattle.condition_order.specs.Conditions.{ends_no_later}
use Rattle.condition_order.proofs.wait.Wait.push_no_later.Given as goal

abbrev pub invariant-loop-ender : goal.invariant-loop-ender
invariant-loop-ender l = l.conjuncts.items ≡ l.fn.conjuncts.items ++ flat_map (ends_no_later l.self l.sleeps) (take l.ender-index l.enders)
