use Rattle.std.proofs.Common.{◌≡◌, ◌*◌, ◌-◌, length, take, drop}
use Rattle.bit_gates.specs.Folded.{IsLarger}
use Rattle.bit_words.specs.Words.{AreWithin}
use Rattle.bit_divide.specs.Quotients.{divided}
use Rattle.bit_divide.proofs.divide_places.Given as goal

abbrev pub invariant-loop-place : goal.invariant-loop-place
invariant-loop-place g l = record {
  formula : l.circuit ≡ (divided l.initial.circuit l.initial.remainder l.opposite (drop l.place l.initial.word)).formula;
  remainder : l.remainder ≡ (divided l.initial.circuit l.initial.remainder l.opposite (drop l.place l.initial.word)).remainder;
  quotient : drop l.place l.word ≡ (divided l.initial.circuit l.initial.remainder l.opposite (drop l.place l.initial.word)).quotient;
  rest : take l.place l.word ≡ take l.place l.initial.word;
  word_within : AreWithin l.circuit.vars l.word;
  remainder_within : AreWithin l.circuit.vars l.remainder;
  long : length l.word ≡ length l.initial.word;
  larger : IsLarger (26 * (g.row.W * (length l.initial.word - l.place))) l.initial.circuit l.circuit;
}
