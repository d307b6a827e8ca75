use Rattle.std.proofs.Common.{◌≡◌, ◌*◌, length, take}
use Rattle.bit_gates.specs.Folded.{IsLarger}
use Rattle.bit_ops.specs.bit_words.Words.{AreWithin}
use Rattle.bit_blast.specs.Layered.{parts_of}
use Rattle.bit_blast.specs.Reads.{all_seen}
use Rattle.bit_blast.proofs.reads.all_seen.Given as goal

abbrev pub invariant-loop-candidate : goal.invariant-loop-candidate
invariant-loop-candidate l = record {
  formula : l.circuit ≡ (all_seen (parts_of l.layout l.words) l.read l.initial.circuit (take l.candidate-index l.candidate-items)).state;
  literals : l.seen.items ≡ (all_seen (parts_of l.layout l.words) l.read l.initial.circuit (take l.candidate-index l.candidate-items)).word;
  count : length l.seen.items ≡ l.candidate-index;
  within : AreWithin l.circuit.vars l.seen.items;
  larger : IsLarger (99 * l.candidate-index) l.initial.circuit l.circuit;
}
