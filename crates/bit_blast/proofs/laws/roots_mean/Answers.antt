use Rattle.bit_blast.proofs.RootLaws.{roots-mean}
use Rattle.bit_blast.proofs.laws.roots_mean.Goals as goal

pub returns : goal.returns
returns c = roots-mean
