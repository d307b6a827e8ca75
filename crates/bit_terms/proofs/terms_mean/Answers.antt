use Rattle.bit_terms.proofs.Meaning.{terms-mean}
use Rattle.bit_terms.proofs.terms_mean.Goals as goal

pub returns : goal.returns
returns c = terms-mean
