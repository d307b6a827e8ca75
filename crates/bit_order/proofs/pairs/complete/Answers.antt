use Rattle.std.proofs.Common.{ℕ, List, ap, sym, ◌∙◌, get_or, take}
use Rattle.std.proofs.lemmas.List.{take_more}
use Rattle.order_formula.specs.Orders.{Order}
use Rattle.bit_order.specs.Comparators.{completed}
use Rattle.bit_order.proofs.Asking.{asked_to, completed-more}
use Rattle.bit_order.proofs.pairs.complete.Goals as goal

pub loop-event-preserved : goal.loop-event-preserved
loop-event-preserved c =
    let was = c.loop-event.invariant in
    let o : Order = c.args.order.now in
    let events : List ℕ = c.args.events.now in
    let i : ℕ = c.loop-event.event-index in
    let event : ℕ = get_or events i 0 in
    record {
      asked = c.in_ok-ask_others.ensures.asked ∙ ap (λ n. asked_to c.loop-event.order n event) was.events ∙ ap (λ p. asked_to p o.events event) was.asked
          ∙ sym (completed-more o (take i events) event) ∙ ap (completed o) (sym (take_more events i 0 c.loop-event-test.true));
      events = c.in_ok-ask_others.ensures.events ∙ was.events;
    }
