use Rattle.std.proofs.Common.{◌∙◌, ◌==◌, ap, sym, length, arith}
use Rattle.std.proofs.lemmas.Bool.{eq-eqb, ne_eqb}
use Rattle.order_formula.specs.Worlds.{position}
use Rattle.order_events.proofs.Lists.{some_of}
use Rattle.world_moves.proofs.Finds.{found, passed, nowhere}
use Rattle.world_moves.proofs.events.event_at.Goals as goal

pub returns-then-position : goal.returns-then-position
returns-then-position c =
    let number = c.loop-placed.invariant.number in
    found (λ e. position c.args.world.now e.0 == c.args.position) c.args.events.now c.loop-placed.placed-index c.all-placed-items.result.now _
    c.all-placed-items.ensures.events c.loop-placed-test.true c.loop-placed.invariant.none c.loop-placed.number number
    (eq-eqb (position c.args.world.now c.loop-placed.placed-index) c.args.position
    (ap (position c.args.world.now) (sym number) ∙ sym c.position.ensures ∙ c.if-position.true))

pub loop-placed-preserved : goal.loop-placed-preserved
loop-placed-preserved c =
    let own = c.all-placed-items.result.now in
    let number = c.loop-placed.invariant.number in
    record {
      number = omega (arith, number);
      none = passed (λ e. position c.args.world.now e.0 == c.args.position) c.args.events.now c.loop-placed.placed-index own
          (some_of own c.loop-placed.placed-index c.loop-placed-test.true) c.all-placed-items.ensures.events c.loop-placed-test.true
          c.loop-placed.invariant.none
          (ne_eqb (position c.args.world.now c.loop-placed.placed-index) c.args.position
          (λ e. c.if-position.false (c.position.ensures ∙ ap (position c.args.world.now) number ∙ e)));
    }

pub returns : goal.returns
returns c =
    sym (nowhere (λ e. position c.args.world.now e.0 == c.args.position) c.args.events.now c.loop-placed.placed-index c.loop-placed.invariant.none
    (omega (arith, c.loop-placed-test.false, c.loop-placed.auto.placed-index-end, ap length c.all-placed-items.ensures.events)))
