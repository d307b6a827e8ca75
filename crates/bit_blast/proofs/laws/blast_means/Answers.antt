use Rattle.bit_blast.proofs.Posed.{blast_means}
use Rattle.bit_blast.proofs.laws.blast_means.Goals as goal

pub returns : goal.returns
returns c = blast_means
