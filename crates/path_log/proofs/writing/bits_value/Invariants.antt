use Rattle.std.proofs.Common.{◌≡◌, ◌+◌, ◌-◌, ◌/◌, ◌^◌, drop}
use Rattle.path_log.specs.Texts.{bits_value}
use Rattle.path_log.proofs.writing.bits_value.Given as goal

abbrev pub invariant-loop-bit : goal.invariant-loop-bit
invariant-loop-bit l =
    record { sum : l.value + bits_value (8 - l.bit-index) (drop l.bit-index l.bits) ≡ bits_value 8 l.bits; weight_is : l.weight ≡ 2 ^ (8 - l.bit-index) / 2 }
