use Rattle.std.proofs.Common.{◌≡◌, ◌++◌, take}
use Rattle.std.specs.Prelude.{filter, map}
use Rattle.mutex_clauses.specs.in_order.helpers.Listed.{matters, step_before}
use Rattle.mutex_clauses.proofs.in_order.literals.push_orders.Given as goal

abbrev pub invariant-loop-other : goal.invariant-loop-other
invariant-loop-other l =
    l.literals.items
    ≡ l.fn.literals.items ++ map
    (λ b. step_before l.draft.paths.now l.draft.layout.now l.access.thread l.access.it.step b.thread b.it.step)
    (filter (matters l.draft.paths.now l.draft.layout.now l.access) (take l.other-index l.uses))
