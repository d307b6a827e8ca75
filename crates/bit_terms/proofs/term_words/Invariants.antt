use Rattle.std.proofs.Common.{◌≡◌, length, take}
use Rattle.std.specs.List.{All}
use Rattle.bit_gates.specs.Folded.{IsLarger}
use Rattle.bit_words.specs.Words.{AreWithin}
use Rattle.bit_terms.specs.Sizes.{terms_size}
use Rattle.bit_terms.proofs.Loops.{first_words}
use Rattle.bit_terms.proofs.term_words.Given as goal

abbrev pub invariant-loop-node : goal.invariant-loop-node
invariant-loop-node l = record {
  formula : l.circuit ≡ (first_words l.node-items l.symbols l.initial.circuit l.node-index).formula;
  words : l.words.items ≡ (first_words l.node-items l.symbols l.initial.circuit l.node-index).words;
  count : length l.words.items ≡ l.node-index;
  within : All (AreWithin l.circuit.vars) l.words.items;
  larger : IsLarger (terms_size (take l.node-index l.node-items)) l.initial.circuit l.circuit;
}
