use Rattle.std.proofs.Common.{◌≡◌, ◌++◌, take, map, ltb}
use Rattle.std.specs.List.{filter}
use Rattle.condition_order.specs.Conditions.{not_both}
use Rattle.condition_order.proofs.wait.Wait.push_not_both.Given as goal

abbrev pub invariant-loop-other : goal.invariant-loop-other
invariant-loop-other l = l.conjuncts.items ≡ l.fn.conjuncts.items ++ map (not_both l.self l.ender) (filter (ltb l.self.sleep) (take l.other-index l.sleeps))
