use Rattle.std.proofs.Common.{◌≡◌, ◌++◌, take}
use Rattle.order_events.specs.Parts.{of_each}
use Rattle.sync_order.specs.Children.{links_formula}
use Rattle.sync_order.proofs.children.push_children.Given as goal

abbrev pub invariant-loop-place : goal.invariant-loop-place
invariant-loop-place l = l.conjuncts.items ≡ l.fn.conjuncts.items ++ of_each (links_formula l.events l.threads) (take l.place l.threads)
