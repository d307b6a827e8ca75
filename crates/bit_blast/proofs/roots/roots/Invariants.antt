use Rattle.std.proofs.Common.{◌≡◌, length, take}
use Rattle.bit_gates.specs.Folded.{IsLarger}
use Rattle.bit_ops.specs.bit_words.Words.{AreWithin}
use Rattle.bit_blast.specs.Layered.{parts_of}
use Rattle.bit_blast.specs.Roots.{roots}
use Rattle.bit_blast.specs.Sizes.{bodies_size}
use Rattle.bit_blast.proofs.roots.roots.Given as goal

abbrev pub invariant-loop-conjunct : goal.invariant-loop-conjunct
invariant-loop-conjunct l = record {
  formula : l.circuit ≡ (roots (parts_of l.layout l.words) l.initial.circuit (take l.conjunct-index l.conjunct-items)).state;
  literals : l.roots.items ≡ (roots (parts_of l.layout l.words) l.initial.circuit (take l.conjunct-index l.conjunct-items)).word;
  count : length l.roots.items ≡ l.conjunct-index;
  within : AreWithin l.circuit.vars l.roots.items;
  larger : IsLarger (bodies_size (take l.conjunct-index l.conjunct-items)) l.initial.circuit l.circuit;
}
