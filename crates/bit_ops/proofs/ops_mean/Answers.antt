use Rattle.bit_ops.proofs.Meaning.{ops-mean}
use Rattle.bit_ops.proofs.ops_mean.Goals as goal

pub returns : goal.returns
returns c = ops-mean
