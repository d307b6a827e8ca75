use Rattle.std.proofs.Common.{arith, ◌*◌, ◌+◌}
use Rattle.std.proofs.lemmas.Grind.{common_steps}
use Rattle.bit_gates.specs.Folded.{conditional}
use Rattle.bit_words.specs.Words.{made_place}
use Rattle.bit_words.proofs.Loops.{reached_more, within_set, larger_more}
use Rattle.bit_words.proofs.choose_words.Goals as goal

pub loop-place-preserved : goal.loop-place-preserved
loop-place-preserved c =
    record {
      reached = reached_more (λ h a b. made_place (conditional h c.args.condition a b)) _ c.loop-place.place c.loop-place.circuit c.choose.new.self c.loop-place.word
          c.args.other.now c.index-word-place.result c.index-other-place.result c.in_ok-word.field-0 c.loop-place.invariant.reached (omega arith)
          (omega arith) c.index-word-place.is c.index-other-place.is c.in_ok-word.ensures.formula c.in_ok-word.ensures.literal;
      within = within_set c.loop-place.circuit.vars c.choose.new.self.vars c.loop-place.word c.loop-place.place c.in_ok-word.field-0
          c.in_ok-word.ensures.larger.0 c.loop-place.invariant.within c.in_ok-word.ensures.within;
      length = grind (arith, common_steps);
      larger = larger_more (9 * c.loop-place.place) 9 (9 * (c.loop-place.place + 1)) c.args.circuit.now c.loop-place.circuit c.choose.new.self
          c.loop-place.invariant.larger c.in_ok-word.ensures.larger (omega arith);
    }
