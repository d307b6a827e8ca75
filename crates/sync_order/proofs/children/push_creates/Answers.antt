use Rattle.std.proofs.Common.{arith}
use Rattle.order_events.proofs.Loops.{flat_more_at}
use Rattle.sync_order.specs.Children.{create_conjuncts}
use Rattle.sync_order.proofs.children.push_creates.Goals as goal

pub loop-link-preserved : goal.loop-link-preserved
loop-link-preserved c =
    flat_more_at c.creates-link-items.result.now c.loop-link.link-index _ (omega (arith, c.loop-link-test.true)) c.args.conjuncts.now.items
    c.loop-link.conjuncts.items c.push_created.new.conjuncts.items (create_conjuncts c.args.events.now c.args.threads.now c.args.place c.args.walk.now)
    c.loop-link.invariant c.in_ok-push_created.ensures
