use Rattle.order_events.proofs.Loops.{flat_more}
use Rattle.mutex_clauses.specs.in_order.helpers.Listed.{of_access}
use Rattle.mutex_clauses.proofs.in_order.literals.push_region.Goals as goal

pub loop-access-preserved : goal.loop-access-preserved
loop-access-preserved c =
    let t = c.args.draft.now in
    flat_more c.args.uses.now c.loop-access.access-index c.access-item.result c.loop-access-test.true c.access-item.is
    c.args.literals.now.items
    c.loop-access.literals.items c.push_access.new.literals.items
    (of_access t.paths.now t.layout.now t.conjuncts.now t.roots.now c.args.region.now c.args.uses.now) c.loop-access.invariant
    c.in_ok-push_access.ensures
