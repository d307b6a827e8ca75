use Rattle.bit_blast.proofs.CaseLaws.{cases-mean}
use Rattle.bit_blast.proofs.laws.cases_mean.Goals as goal

pub returns : goal.returns
returns c = cases-mean
