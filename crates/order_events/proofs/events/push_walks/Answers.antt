use Rattle.std.proofs.Common.{arith}
use Rattle.order_events.proofs.Numbers.{walks_on}
use Rattle.order_events.proofs.events.push_walks.Goals as goal

pub loop-thread-preserved : goal.loop-thread-preserved
loop-thread-preserved c =
    walks_on (λ w. w.events) c.args.threads.now c.loop-thread.thread c.index-threads-thread.result c.args.all.now.items c.loop-thread.all.items
    c.push_items.new.all.items c.events.result.now (omega (arith, c.loop-thread-test.true)) c.index-threads-thread.is c.events.ensures c.loop-thread.invariant
    c.in_ok-push_items.ensures
