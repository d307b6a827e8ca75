use Rattle.bit_blast.proofs.Taken.{reads-mean}
use Rattle.bit_blast.proofs.laws.reads_mean.Goals as goal

pub returns : goal.returns
returns c = reads-mean
