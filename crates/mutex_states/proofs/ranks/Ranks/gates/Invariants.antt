use Rattle.std.proofs.Common.{◌≡◌, ◌*◌, [], length}
use Rattle.std.specs.Prelude.{fold}
use Rattle.std.specs.List.{range_with_len}
use Rattle.bit_gates.specs.Folded.{IsLarger}
use Rattle.circuit_sizes.specs.bit_ops.bit_words.Words.{AreWithin}
use Rattle.mutex_states.specs.Ranks.{with_gate}
use Rattle.mutex_states.proofs.ranks.Ranks.gates.Given as goal

abbrev pub invariant-loop-region : goal.invariant-loop-region
invariant-loop-region l = record {
  circuit : l.circuit ≡ (fold (with_gate l.self.count l.self.start l.rank) (record { state = l.initial.circuit; word = [] }) (range_with_len 0 l.region)).state;
  literals : l.gates.items ≡ (fold (with_gate l.self.count l.self.start l.rank) (record { state = l.initial.circuit; word = [] }) (range_with_len 0 l.region)).word;
  count : length l.gates.items ≡ l.region;
  within : AreWithin l.circuit.vars l.gates.items;
  larger : IsLarger (3 * l.region) l.initial.circuit l.circuit;
}
