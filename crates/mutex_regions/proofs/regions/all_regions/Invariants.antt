use Rattle.std.proofs.Common.{◌≡◌, take}
use Rattle.order_events.specs.lawful_order.Events.{all_from}
use Rattle.mutex_regions.proofs.regions.all_regions.Given as goal

abbrev pub invariant-loop-thread : goal.invariant-loop-thread
invariant-loop-thread l = l.all.items ≡ all_from (λ q. q.regions) 0 (take l.thread l.paths.threads)
