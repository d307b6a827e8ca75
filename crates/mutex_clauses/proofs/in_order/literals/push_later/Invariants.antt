use Rattle.std.proofs.Common.{◌≡◌, ◌++◌, take}
use Rattle.std.specs.Prelude.{filter, map}
use Rattle.mutex_clauses.specs.in_order.helpers.Listed.{follows, step_before}
use Rattle.mutex_clauses.proofs.in_order.literals.push_later.Given as goal

abbrev pub invariant-loop-other : goal.invariant-loop-other
invariant-loop-other l =
    l.literals.items
    ≡ l.fn.literals.items ++ map
    (λ s. step_before l.draft.paths.now l.draft.layout.now l.region.thread l.region.it.«from» s.thread s.it.«from»)
    (filter (follows l.draft.paths.now l.draft.layout.now l.region) (take l.other-index l.regions))
