use Rattle.std.proofs.Common.{◌≡◌, drop}
use Rattle.std.specs.List.{fold}
use Rattle.refute_check.specs.helpers.Blocks.{next_number}
use Rattle.refute_check.proofs.blocks.number_after.Given as goal

abbrev pub invariant-loop-byte : goal.invariant-loop-byte
invariant-loop-byte l = fold next_number l.fn.number l.bytes ≡ fold next_number l.number (drop l.byte-index l.bytes)
