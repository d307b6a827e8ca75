use Rattle.std.proofs.Common.{◌≡◌, ◌++◌, take}
use Rattle.lawful_order.specs.Events.{all_from}
use Rattle.order_events.proofs.sleeps.push_walks.Given as goal

abbrev pub invariant-loop-thread : goal.invariant-loop-thread
invariant-loop-thread l = l.all.items ≡ l.fn.all.items ++ all_from (λ w. w.sleeps) 0 (take l.thread l.threads)
