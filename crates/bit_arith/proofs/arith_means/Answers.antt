use Rattle.bit_arith.proofs.Meaning.{arith-mean}
use Rattle.bit_arith.proofs.arith_means.Goals as goal

pub returns : goal.returns
returns c = arith-mean
