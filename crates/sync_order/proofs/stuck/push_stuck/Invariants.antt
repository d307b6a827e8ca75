use Rattle.std.proofs.Common.{◌≡◌, ◌++◌, map, take, option_to_list}
use Rattle.order_events.specs.Parts.{of_each}
use Rattle.sync_order.specs.Stuck.{stuck_at}
use Rattle.sync_order.proofs.stuck.push_stuck.Given as goal

abbrev pub invariant-loop-place : goal.invariant-loop-place
invariant-loop-place l = l.conjuncts.items
    ≡ l.fn.conjuncts.items ++ of_each (λ t q. map (stuck_at l.paths t q) (option_to_list q.blocked)) (take l.place l.paths.threads)
