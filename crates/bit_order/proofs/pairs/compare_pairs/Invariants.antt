use Rattle.std.proofs.Common.{◌≡◌, ◌*◌, [], take}
use Rattle.std.specs.Prelude.{fold}
use Rattle.bit_gates.specs.Folded.{IsLarger}
use Rattle.bit_words.specs.Words.{AreWithin}
use Rattle.bit_order.specs.Comparators.{with_comparator}
use Rattle.bit_order.proofs.pairs.compare_pairs.Given as goal

abbrev pub invariant-loop-pair : goal.invariant-loop-pair
invariant-loop-pair l = record {
  literals : l.literals.items ≡ (fold with_comparator (record { state = l.initial.circuit; word = [] }) (take l.pair-index l.pairs)).word;
  formula : l.circuit ≡ (fold with_comparator (record { state = l.initial.circuit; word = [] }) (take l.pair-index l.pairs)).state;
  within : AreWithin l.circuit.vars l.literals.items;
  larger : IsLarger (96 * l.pair-index) l.initial.circuit l.circuit;
}
