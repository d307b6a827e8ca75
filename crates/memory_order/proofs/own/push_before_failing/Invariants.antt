use Rattle.std.proofs.Common.{◌≡◌, ◌++◌, map, take}
use Rattle.std.specs.Prelude.{filter}
use Rattle.memory_order.specs.Own.{is_failing, before_failing}
use Rattle.memory_order.proofs.own.push_before_failing.Given as goal

abbrev pub invariant-loop-placed : goal.invariant-loop-placed
invariant-loop-placed l = l.conjuncts.items
    ≡ l.initial.conjuncts.items ++ map (before_failing l.events l.earlier) (filter (λ f. is_failing f.it.kind) (take l.placed-index l.placed-items))
