use Rattle.std.proofs.Common.{◌≡◌, take}
use Rattle.path_log.specs.Fields.{all_bits}
use Rattle.path_log.proofs.outcomes.bits.Given as goal

abbrev pub invariant-loop-byte : goal.invariant-loop-byte
invariant-loop-byte l = l.all.items ≡ all_bits (take l.byte-index l.bytes)
