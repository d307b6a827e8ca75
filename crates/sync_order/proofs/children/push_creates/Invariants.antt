use Rattle.std.proofs.Common.{◌≡◌, ◌++◌, flat_map, take}
use Rattle.sync_order.specs.Children.{create_conjuncts}
use Rattle.sync_order.proofs.children.push_creates.Given as goal

abbrev pub invariant-loop-link : goal.invariant-loop-link
invariant-loop-link l =
    l.conjuncts.items ≡ l.fn.conjuncts.items ++ flat_map (create_conjuncts l.events l.threads l.place l.walk) (take l.link-index l.link-items)
