use Rattle.std.proofs.Common.{◌≡◌, ◌++◌, map, take}
use Rattle.std.specs.Prelude.{filter}
use Rattle.std.specs.List.{flat_map}
use Rattle.memory_order.specs.Own.{is_failing, is_before_failing, before_failing}
use Rattle.memory_order.proofs.own.push_failing.Given as goal

abbrev pub invariant-loop-placed : goal.invariant-loop-placed
invariant-loop-placed g l = l.conjuncts.items ≡ l.initial.conjuncts.items
    ++ flat_map (λ x. map (before_failing l.events x) (filter (λ f. is_failing f.it.kind) l.events))
    (filter (is_before_failing g.M.MemoryModel.BUFFERED) (take l.placed-index l.placed-items))
