use Rattle.std.proofs.Common.{◌≡◌, ◌++◌, flat_map, take}
use Rattle.sync_order.specs.Children.{join_conjuncts}
use Rattle.sync_order.proofs.children.push_joins.Given as goal

abbrev pub invariant-loop-link : goal.invariant-loop-link
invariant-loop-link l =
    l.conjuncts.items ≡ l.fn.conjuncts.items ++ flat_map (join_conjuncts l.events l.threads l.place l.walk) (take l.link-index l.link-items)
