use Rattle.std.proofs.Common.{◌≡◌, ◌*◌, length}
use Rattle.bit_gates.specs.Folded.{IsLarger}
use Rattle.bit_words.specs.Words.{AreWithin}
use Rattle.bit_arith.specs.Sums.{with_product}
use Rattle.bit_arith.proofs.Rows.{IsMultiplied}
use Rattle.bit_arith.proofs.add_product.Given as goal

abbrev pub invariant-loop-place : goal.invariant-loop-place
invariant-loop-place g l = record {
  made : IsMultiplied (with_product l.initial.circuit l.initial.word l.a l.b) l.place l.circuit l.word l.a l.b;
  within : AreWithin l.circuit.vars l.word;
  length : length l.word ≡ length l.initial.word;
  larger : IsLarger (21 * (g.row.W * l.place)) l.initial.circuit l.circuit;
}
