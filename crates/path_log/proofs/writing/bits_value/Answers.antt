use Rattle.std.proofs.Common.{◌≡◌, ◌+◌, ◌-◌, ◌/◌, drop, ap, ◌∙◌, arith, ℕ}
use Rattle.path_log.specs.Texts.{bits_value}
use Rattle.path_log.proofs.Packing.{value_on, value_small, half}
use Rattle.path_log.proofs.writing.bits_value.Goals.{then-bit, else-bit}
use Rattle.path_log.proofs.writing.bits_value.Goals as goal

pub overflow_add-value : goal.overflow_add-value
overflow_add-value c =
    let bits = c.args.bits.now in
    let i = c.loop-bit.bit-index in
    let step = value_on bits i c.loop-bit-test.true c.requires in
    let bit = rw c.if-bit.true at step in
    let small = value_small bits in
    omega arith

pub loop-bit-preserved : goal.loop-bit-preserved
loop-bit-preserved c =
    let bits = c.args.bits.now in
    let i = c.loop-bit.bit-index in
    let step = value_on bits i c.loop-bit-test.true c.requires in
    let halved = half i (omega arith) in
    let value : c.if-bit.value + bits_value (8 - (i + 1)) (drop (i + 1) bits) ≡ bits_value 8 bits =
    elim c.if-bit.branch [
      | then-bit w ↦ let bit = rw w.if-bit.true at step in let is = w.value-is in omega arith
      | else-bit w ↦ let bit = rw w.if-bit.false at step in let is = w.value-is in omega arith
    ] in
    record { sum = value; weight_is = ap (λ (n : ℕ). n / 2) (c.loop-bit.invariant.weight_is ∙ halved) }
