use Rattle.std.proofs.Common.{arith, ◌≡◌, ◌*◌, ◌+◌, length, replicate}
use Rattle.std.proofs.lemmas.List.{length-replicate}
use Rattle.std.proofs.lemmas.Grind.{common_steps}
use Rattle.bit_gates.specs.Folded.{folded_gate}
use Rattle.bit_words.specs.Words.{made_place}
use Rattle.bit_words.proofs.Loops.{reached_more, within_set, larger_more, replicate_at}
use Rattle.bit_words.proofs.gate_by.Goals as goal

pub loop-place-preserved : goal.loop-place-preserved
loop-place-preserved c =
    let long : length (replicate (length c.args.word.now) c.args.by) ≡ length c.args.word.now = length-replicate (length c.args.word.now) c.args.by in
    record {
      reached = reached_more (λ h a b. made_place (folded_gate c.args.gate_of h a b)) _ c.loop-place.place c.loop-place.circuit c.gate.new.self c.loop-place.word
          (replicate (length c.args.word.now) c.args.by) c.index-word-place.result c.args.by c.in_ok-word.field-0 c.loop-place.invariant.reached
          (omega arith) (omega (arith, long)) c.index-word-place.is (replicate_at (length c.args.word.now) c.loop-place.place c.args.by (omega arith))
          c.in_ok-word.ensures.formula c.in_ok-word.ensures.literal;
      within = within_set c.loop-place.circuit.vars c.gate.new.self.vars c.loop-place.word c.loop-place.place c.in_ok-word.field-0
          c.in_ok-word.ensures.larger.0 c.loop-place.invariant.within c.in_ok-word.ensures.within;
      length = grind (arith, common_steps);
      larger = larger_more (4 * c.loop-place.place) 4 (4 * (c.loop-place.place + 1)) c.args.circuit.now c.loop-place.circuit c.gate.new.self
          c.loop-place.invariant.larger c.in_ok-word.ensures.larger (omega arith);
    }
