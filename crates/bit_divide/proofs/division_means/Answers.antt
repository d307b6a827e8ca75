use Rattle.bit_divide.proofs.Meaning.{division-means}
use Rattle.bit_divide.proofs.division_means.Goals as goal

pub returns : goal.returns
returns c = division-means
