use Rattle.std.proofs.Common.{◌≡◌, ℕ, ◌<◌, length, get_or}
use Rattle.std.specs.Prelude.{◌==◌, false}
use Rattle.sym_terms.specs.int_ops.Arith.{bit}
use Rattle.bit_gates.specs.Folded.{constant}
use Rattle.bit_terms.proofs.constant_word.Given as goal

abbrev pub invariant-loop-place : goal.invariant-loop-place
invariant-loop-place l = (length l.word ≡ 32) × ((k : ℕ) → k < l.place → get_or l.word k (constant false) ≡ constant (bit l.value k == 1))
