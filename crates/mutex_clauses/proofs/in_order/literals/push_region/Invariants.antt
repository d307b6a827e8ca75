use Rattle.std.proofs.Common.{◌≡◌, ◌++◌, take}
use Rattle.std.specs.List.{flat_map}
use Rattle.mutex_clauses.specs.in_order.helpers.Listed.{of_access}
use Rattle.mutex_clauses.proofs.in_order.literals.push_region.Given as goal

abbrev pub invariant-loop-access : goal.invariant-loop-access
invariant-loop-access l =
    l.literals.items
    ≡ l.fn.literals.items ++ flat_map
    (of_access l.draft.paths.now l.draft.layout.now l.draft.conjuncts.now l.draft.roots.now l.region l.uses) (take l.access-index l.uses)
