use Rattle.std.proofs.Common.{◌≡◌, ◌*◌, length, replicate}
use Rattle.bit_gates.specs.Folded.{IsLarger, folded_gate}
use Rattle.bit_words.specs.Words.{AreWithin, gated_words, made_place}
use Rattle.bit_words.proofs.Loops.{IsReached}
use Rattle.bit_words.proofs.gate_by.Given as goal

abbrev pub invariant-loop-place : goal.invariant-loop-place
invariant-loop-place l = record {
  reached : IsReached (λ h a b. made_place (folded_gate l.gate_of h a b)) (gated_words l.gate_of l.initial.circuit l.initial.word (replicate (length l.initial.word) l.by))
      l.place l.circuit l.word (replicate (length l.initial.word) l.by);
  within : AreWithin l.circuit.vars l.word;
  length : length l.word ≡ length l.initial.word;
  larger : IsLarger (4 * l.place) l.initial.circuit l.circuit;
}
