use Rattle.std.proofs.Common.{◌∙◌, ◌+◌, ap, refl, sym, length, fold, arith}
use Rattle.std.specs.Prelude.{max}
use Rattle.std.specs.Option.{option_map_or}
use Rattle.order_formula.specs.Worlds.{position}
use Rattle.world_plan.specs.Plan.{is_failure}
use Rattle.world_moves.proofs.Finds.{found, passed, nowhere}
use Rattle.world_moves.proofs.events.last_place.Goals as goal

pub returns-then-is_failure : goal.returns-then-is_failure
returns-then-is_failure c =
    let k = c.loop-placed.placed-index in
    c.position.ensures ∙ ap (position c.args.world.now) c.loop-placed.invariant.number
    ∙ ap (λ o. option_map_or (λ e. position c.args.world.now e.0) o (fold (λ n p. max n (p + 1)) 0 c.args.world.now.positions))
    (found (λ e. is_failure e.1.it.kind) c.args.events.now k c.all-placed-items.result.now _ c.all-placed-items.ensures.events
    c.loop-placed-test.true c.loop-placed.invariant.none k refl (sym c.is_failure.ensures ∙ c.if-is_failure.true))

pub loop-placed-preserved : goal.loop-placed-preserved
loop-placed-preserved c = record {
  number = omega (arith, c.loop-placed.invariant.number);
  none = passed (λ e. is_failure e.1.it.kind) c.args.events.now c.loop-placed.placed-index c.all-placed-items.result.now _
      c.all-placed-items.ensures.events c.loop-placed-test.true c.loop-placed.invariant.none (sym c.is_failure.ensures ∙ c.if-is_failure.false);
}

pub returns : goal.returns
returns c =
    c.past_all.ensures
    ∙ ap (λ o. option_map_or (λ e. position c.args.world.now e.0) o (fold (λ n p. max n (p + 1)) 0 c.args.world.now.positions))
    (sym (nowhere (λ e. is_failure e.1.it.kind) c.args.events.now c.loop-placed.placed-index c.loop-placed.invariant.none
    (omega (arith, c.loop-placed-test.false, c.loop-placed.auto.placed-index-end, ap length c.all-placed-items.ensures.events))))
