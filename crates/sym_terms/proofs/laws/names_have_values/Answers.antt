use Rattle.sym_terms.proofs.Growth.{named}
use Rattle.sym_terms.proofs.laws.names_have_values.Goals as goal

pub returns : goal.returns
returns c = named
