use Rattle.std.proofs.Common.{◌≡◌, ◌++◌, take}
use Rattle.lawful_order.specs.Events.{placed_in}
use Rattle.order_events.proofs.items.push_items.Given as goal

abbrev pub invariant-loop-item : goal.invariant-loop-item
invariant-loop-item g l = l.all.items ≡ l.fn.all.items ++ placed_in l.thread (take l.item-index l.items)
