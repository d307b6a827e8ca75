use Rattle.std.proofs.Common.{◌≡◌, ◌++◌, take}
use Rattle.std.specs.Prelude.{filter}
use Rattle.std.specs.List.{flat_map}
use Rattle.mutex_regions.specs.Functions.{is_used}
use Rattle.mutex_clauses.specs.in_order.helpers.Listed.{of_region}
use Rattle.mutex_clauses.proofs.in_order.literals.push_uses.Given as goal

abbrev pub invariant-loop-region : goal.invariant-loop-region
invariant-loop-region l =
    l.literals.items
    ≡ l.fn.literals.items ++ flat_map
    (λ r. of_region l.draft.paths.now l.draft.layout.now l.draft.conjuncts.now l.draft.roots.now r
    (filter (is_used l.variables r) l.accesses)) (take l.region-index l.regions)
