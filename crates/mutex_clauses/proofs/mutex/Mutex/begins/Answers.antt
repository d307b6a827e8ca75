use Rattle.std.proofs.Common.{◌∙◌, ◌++◌, ◌∷◌, [], ap, arith, get_or, None}
use Rattle.path_walk.specs.declared.event.Region.{Region}
use Rattle.order_events.specs.lawful_order.Events.{Placed}
use Rattle.order_events.proofs.Loops.{map_more_at}
use Rattle.mutex_clauses.specs.helpers.Starts.{begin_in}
use Rattle.mutex_clauses.proofs.mutex.Mutex.begins.Goals as goal

pub loop-region-preserved : goal.loop-region-preserved
loop-region-preserved c =
    let place = c.loop-region.region-index in
    let none : Placed Region = record { thread = 0; it = record { mutex = 0; «from» = 0; to = None } } in
    map_more_at c.args.self.now.regions.items place none (omega (arith, c.loop-region-test.true, c.deref-region-items.ensures.len)) []
    c.loop-region.begins.items c.push.new.self.items (begin_in c.args.events.now) c.loop-region.invariant
    (c.in_ok-push.ensures.items
    ∙ ap (λ z. c.loop-region.begins.items ++ z ∷ [])
    (c.begin.ensures ∙ ap (λ rs. begin_in c.args.events.now (get_or rs place none)) c.deref-region-items.ensures.value))
