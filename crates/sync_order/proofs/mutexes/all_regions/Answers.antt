use Rattle.std.proofs.Common.{[], arith}
use Rattle.order_events.proofs.Numbers.{walks_on}
use Rattle.sync_order.proofs.mutexes.all_regions.Goals as goal

pub loop-thread-preserved : goal.loop-thread-preserved
loop-thread-preserved c =
    walks_on (λ q. q.regions) c.args.threads.now c.loop-thread.thread c.index-threads-thread.result [] c.loop-thread.all.items
    c.push_items.new.all.items c.regions.result.now (omega (arith, c.loop-thread-test.true)) c.index-threads-thread.is c.regions.ensures
    c.loop-thread.invariant c.in_ok-push_items.ensures
