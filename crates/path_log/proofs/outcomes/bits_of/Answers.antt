use Rattle.std.proofs.Common.{arith}
use Rattle.path_log.proofs.Bits.{masks_are_bits}
use Rattle.path_log.proofs.outcomes.bits_of.Goals as goal

pub returns : goal.returns
returns c = masks_are_bits c.args.byte (omega arith)
