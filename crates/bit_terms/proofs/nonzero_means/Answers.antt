use Rattle.bit_terms.proofs.Meaning.{nonzero-means}
use Rattle.bit_terms.proofs.nonzero_means.Goals as goal

pub returns : goal.returns
returns c = nonzero-means
