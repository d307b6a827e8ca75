use Rattle.std.proofs.Common.{◌≡◌, ◌++◌, take}
use Rattle.std.specs.List.{flat_map}
use Rattle.mutex_clauses.specs.in_order.helpers.Listed.{rise}
use Rattle.mutex_clauses.proofs.in_order.literals.push_rise.Given as goal

abbrev pub invariant-loop-region : goal.invariant-loop-region
invariant-loop-region l =
    l.literals.items ≡ l.fn.literals.items ++ flat_map (rise l.draft.paths.now l.draft.layout.now l.regions) (take l.region-index l.regions)
