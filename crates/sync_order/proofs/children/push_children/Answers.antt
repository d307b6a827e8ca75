use Rattle.std.proofs.Common.{◌∙◌, ◌++◌, ap, append_assoc, arith}
use Rattle.std.specs.List.{flat_map}
use Rattle.order_events.proofs.Loops.{each_more}
use Rattle.sync_order.specs.Children.{create_conjuncts, join_conjuncts, links_formula}
use Rattle.sync_order.proofs.children.push_children.Goals as goal

pub loop-place-preserved : goal.loop-place-preserved
loop-place-preserved c =
    let events = c.args.events.now in
    let threads = c.args.threads.now in
    let place = c.loop-place.place in
    let walk = c.index-threads-place.result in
    let mid = c.loop-place.conjuncts.items in
    each_more threads place walk (omega (arith, c.loop-place-test.true)) c.index-threads-place.is c.args.conjuncts.now.items mid
    c.push_joins.new.conjuncts.items (links_formula events threads) c.loop-place.invariant
    (c.in_ok-push_joins.ensures
    ∙ ap (λ zs. zs ++ flat_map (join_conjuncts events threads place walk) walk.joins) c.in_ok-push_creates.ensures
    ∙ append_assoc mid (flat_map (create_conjuncts events threads place walk) walk.creates) (flat_map (join_conjuncts events threads place walk) walk.joins))
