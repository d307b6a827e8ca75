use Rattle.std.proofs.Common.{◌≡◌, ◌++◌, map, take}
use Rattle.sync_order.specs.Children.{created_before}
use Rattle.sync_order.proofs.children.push_created_before.Given as goal

abbrev pub invariant-loop-event : goal.invariant-loop-event
invariant-loop-event l = l.conjuncts.items ≡ l.fn.conjuncts.items ++ map (created_before l.events l.place l.link l.child) (take l.event-index l.own)
