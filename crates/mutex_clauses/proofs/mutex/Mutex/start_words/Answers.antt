use Rattle.std.proofs.Common.{◌∙◌, ◌++◌, ◌∷◌, [], ap, arith, get_or, false}
use Rattle.order_events.proofs.Loops.{map_more_at}
use Rattle.mutex_regions.specs.declared.variables.Spot.{Spot}
use Rattle.mutex_clauses.specs.helpers.Starts.{start_word}
use Rattle.mutex_clauses.proofs.mutex.Mutex.start_words.Goals as goal

pub loop-spot-preserved : goal.loop-spot-preserved
loop-spot-preserved c =
    let place = c.loop-spot.spot-index in
    let code = c.args.code.now in
    let none : Spot = record { variable = record { first = 0; cells = 0; is_array = false }; index = 0 } in
    map_more_at c.args.self.now.spots.items place none (omega (arith, c.loop-spot-test.true, c.deref-spot-items.ensures.len)) []
    c.loop-spot.words.items c.push.new.self.items (start_word code) c.loop-spot.invariant
    (c.in_ok-push.ensures.items
    ∙ ap (λ z. c.loop-spot.words.items ++ z ∷ [])
    (c.start_word.ensures ∙ ap (λ ss. start_word code (get_or ss place none)) c.deref-spot-items.ensures.value))
