use Rattle.std.proofs.Common.{◌∙◌, ◌++◌, ◌∷◌, [], ap, arith}
use Rattle.order_events.proofs.Loops.{map_more_at}
use Rattle.order_events.specs.Parts.{one_of}
use Rattle.order_formula.specs.declared.group.Group.TheVariants.{Child}
use Rattle.sync_order.specs.Children.{created_before}
use Rattle.sync_order.proofs.children.push_created_before.Goals as goal

pub loop-event-preserved : goal.loop-event-preserved
loop-event-preserved c =
    map_more_at c.args.own.now c.loop-event.event-index _ (omega (arith, c.loop-event-test.true)) c.args.conjuncts.now.items
    c.loop-event.conjuncts.items c.push.new.self.items (created_before c.args.events.now c.args.place c.args.link c.args.child)
    c.loop-event.invariant
    (c.in_ok-push.ensures.items
    ∙ ap (λ z. c.loop-event.conjuncts.items ++ z ∷ []) (c.in_ok-one_of.ensures ∙ ap (λ l. one_of (Child c.args.child) (l ∷ [])) c.before-before.ensures))
