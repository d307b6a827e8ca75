use Rattle.std.proofs.Common.{◌∙◌, ap, length, arith}
use Rattle.order_events.proofs.Numbers.{none_is, number_at, is_step}
use Rattle.order_events.proofs.events.Events.number.Goals as goal

pub returns-then-placed-step : goal.returns-then-placed-step
returns-then-placed-step c =
    c.loop-placed.invariant.number
    ∙ number_at c.args.thread c.args.step c.args.self.now c.all-placed-items.result.now c.loop-placed.placed-index _ c.all-placed-items.ensures.events
    c.loop-placed.invariant.none c.loop-placed-test.true c.if-placed-thread.true c.if-placed-step.true

pub returns : goal.returns
returns c =
    c.loop-placed.invariant.number
    ∙ none_is (is_step c.args.thread c.args.step) c.args.self.now c.loop-placed.placed-index c.loop-placed.invariant.none
    (omega (arith, c.loop-placed-test.false, c.loop-placed.auto.placed-index-end, ap length c.all-placed-items.ensures.events))
