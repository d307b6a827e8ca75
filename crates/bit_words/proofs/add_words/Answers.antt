use Rattle.std.proofs.Common.{arith, ◌*◌, ◌+◌}
use Rattle.std.proofs.lemmas.Grind.{common_steps}
use Rattle.bit_gates.specs.Folded.{kept}
use Rattle.bit_words.specs.Words.{added_place}
use Rattle.bit_words.proofs.Loops.{kept_same, reached_more, within_set, larger_more}
use Rattle.bit_words.proofs.add_words.Goals as goal

pub loop-place-preserved : goal.loop-place-preserved
loop-place-preserved c =
    record {
      reached = reached_more added_place _ c.loop-place.place (kept c.loop-place.circuit c.loop-place.carry) (kept c.add_place.new.circuit c.in_ok-sum.next)
          c.loop-place.word c.args.other.now c.index-word-place.result c.index-other-place.result c.in_ok-sum.sum c.loop-place.invariant.reached
          (omega arith) (omega arith) c.index-word-place.is c.index-other-place.is
          (kept_same _ _ _ c.in_ok-sum.ensures.formula c.in_ok-sum.ensures.carry) c.in_ok-sum.ensures.sum;
      within = within_set c.loop-place.circuit.vars c.add_place.new.circuit.vars c.loop-place.word c.loop-place.place c.in_ok-sum.sum
          c.in_ok-sum.ensures.larger.0 c.loop-place.invariant.within c.in_ok-sum.ensures.sum_within;
      carry = c.in_ok-sum.ensures.carry_within;
      length = grind (arith, common_steps);
      larger = larger_more (17 * c.loop-place.place) 17 (17 * (c.loop-place.place + 1)) c.args.circuit.now c.loop-place.circuit c.add_place.new.circuit
          c.loop-place.invariant.larger c.in_ok-sum.ensures.larger (omega arith);
    }
