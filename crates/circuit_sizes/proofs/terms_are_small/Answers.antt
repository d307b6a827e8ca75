use Rattle.circuit_sizes.proofs.Terms.{terms_small}
use Rattle.circuit_sizes.proofs.terms_are_small.Goals as goal

pub returns : goal.returns
returns c = terms_small
