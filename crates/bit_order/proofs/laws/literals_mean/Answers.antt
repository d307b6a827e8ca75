use Rattle.bit_order.proofs.Meaning.{literals-mean}
use Rattle.bit_order.proofs.laws.literals_mean.Goals as goal

pub returns : goal.returns
returns c = literals-mean
