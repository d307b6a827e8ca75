use Rattle.std.proofs.Common.{◌≡◌, ◌++◌, map, take}
use Rattle.sync_order.specs.Children.{created_before, of_children}
use Rattle.sync_order.proofs.children.push_created.Given as goal

abbrev pub invariant-loop-child : goal.invariant-loop-child
invariant-loop-child l = l.conjuncts.items
    ≡ l.fn.conjuncts.items
    ++ of_children (take l.child l.threads) l.walk l.link.child (λ c q. map (created_before l.events l.place l.link c) q.events)
