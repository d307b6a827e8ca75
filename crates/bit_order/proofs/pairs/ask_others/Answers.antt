use Rattle.std.proofs.Common.{ℕ, ap, sym, ◌∙◌}
use Rattle.order_formula.specs.Orders.{Order, pair_of, with_pair}
use Rattle.bit_order.proofs.Asking.{asked-itself, asked-other}
use Rattle.bit_order.proofs.pairs.ask_others.Goals as goal
use Rattle.bit_order.proofs.pairs.ask_others.Goals.{then-other-event+in_ok-ask_pair, else-other-event}

pub loop-other-preserved : goal.loop-other-preserved
loop-other-preserved c =
    let was = c.loop-other.invariant in
    let o : Order = c.args.order.now in
    let event : ℕ = c.args.event in
    let other : ℕ = c.loop-other.other in
    elim c.if-other-event.branch [
      | then-other-event+in_ok-ask_pair w ↦
          let made = w.order-is ∙ w.in_ok-ask_pair.ensures in
          record {
            asked = made ∙ ap (λ p. with_pair p (pair_of event other)) was.asked ∙ sym (asked-other o other event w.if-other-event.true);
            events = ap (λ (p : Order). p.events) made ∙ was.events;
          }
      | else-other-event w ↦ record {
        asked = w.order-is ∙ was.asked ∙ sym (asked-itself o other event w.if-other-event.false);
        events = ap (λ (p : Order). p.events) w.order-is ∙ was.events;
      }
    ]
