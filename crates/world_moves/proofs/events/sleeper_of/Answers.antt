use Rattle.std.proofs.Common.{◌∙◌, ap, refl, sym, length, arith}
use Rattle.std.specs.Prelude.{option_map}
use Rattle.order_formula.specs.Worlds.{is_ended}
use Rattle.order_events.proofs.Lists.{some_of}
use Rattle.world_moves.proofs.Finds.{found, passed, nowhere}
use Rattle.world_moves.proofs.events.sleeper_of.Goals as goal

pub returns-then-is_ended : goal.returns-then-is_ended
returns-then-is_ended c =
    let k = c.loop-number.number in
    ap (option_map (λ s. s.1.thread)) (found (λ s. is_ended c.args.world.now s.0 c.args.event) c.args.sleeps.now k c.all-placed-items.result.now _
    c.all-placed-items.ensures c.loop-number-test.true c.loop-number.invariant.none k refl (sym c.is_ended.ensures ∙ c.if-is_ended.true))

pub loop-number-preserved : goal.loop-number-preserved
loop-number-preserved c =
    let own = c.all-placed-items.result.now in
    let k = c.loop-number.number in
    record {
      none = passed (λ s. is_ended c.args.world.now s.0 c.args.event) c.args.sleeps.now k own (some_of own k c.loop-number-test.true)
          c.all-placed-items.ensures c.loop-number-test.true c.loop-number.invariant.none (sym c.is_ended.ensures ∙ c.if-is_ended.false);
    }

pub returns : goal.returns
returns c =
    ap (option_map (λ s. s.1.thread)) (sym (nowhere (λ s. is_ended c.args.world.now s.0 c.args.event) c.args.sleeps.now c.loop-number.number
    c.loop-number.invariant.none (omega (arith, c.loop-number-test.false, c.loop-number.auto.number-end, ap length c.all-placed-items.ensures))))
