use Rattle.std.proofs.Common.{◌≡◌, ◌++◌, take}
use Rattle.std.specs.List.{flat_map}
use Rattle.condition_order.specs.Conditions.{formula_of}
use Rattle.condition_order.proofs.conjuncts.push_waits.Given as goal

abbrev pub invariant-loop-wait : goal.invariant-loop-wait
invariant-loop-wait l =
    l.conjuncts.items ≡ l.fn.conjuncts.items ++ flat_map (formula_of l.events l.waits) (take l.wait-index l.waits)
