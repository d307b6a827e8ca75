use Rattle.bit_blast.proofs.WholeLaws.{whole_means}
use Rattle.bit_blast.proofs.laws.whole_means.Goals as goal

pub returns : goal.returns
returns c = whole_means
