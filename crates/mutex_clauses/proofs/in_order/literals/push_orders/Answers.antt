use Rattle.mutex_clauses.specs.in_order.helpers.Listed.{matters, step_before}
use Rattle.mutex_clauses.proofs.in_order.Listing.{sift_more}
use Rattle.mutex_clauses.proofs.in_order.literals.push_orders.Goals as goal

pub loop-other-preserved : goal.loop-other-preserved
loop-other-preserved c =
    let t = c.args.draft.now in
    sift_more (matters t.paths.now t.layout.now c.args.access.now)
    (λ b. step_before t.paths.now t.layout.now c.args.access.now.thread c.args.access.now.it.step b.thread b.it.step) c.args.uses.now
    c.loop-other.other-index c.other-item.result c.args.literals.now.items c.loop-other.literals.items
    c.push_order.new.literals.items c.loop-other-test.true c.other-item.is c.loop-other.invariant c.in_ok-push_order.ensures
