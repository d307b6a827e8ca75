use Rattle.std.proofs.Common.{◌≡◌, ◌*◌, ◌^◌, drop}
use Rattle.bit_gates.specs.Folded.{IsLarger}
use Rattle.bit_words.specs.Words.{AreWithin}
use Rattle.bit_shift.specs.Shifts.{shifted}
use Rattle.bit_shift.proofs.shift.Given as goal

abbrev pub invariant-loop-place : goal.invariant-loop-place
invariant-loop-place g l = record {
  all : shifted l.to l.bit 1 l.initial.circuit l.a l.distance ≡ shifted l.to l.bit l.by l.circuit l.word (drop l.place l.distance);
  by : l.by ≡ 2 ^ l.place;
  within : AreWithin l.circuit.vars l.word;
  larger : IsLarger (9 * (g.row.W * l.place)) l.initial.circuit l.circuit;
}
