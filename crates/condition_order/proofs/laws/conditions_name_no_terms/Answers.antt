use Rattle.condition_order.proofs.Atoms.{no_terms}
use Rattle.condition_order.proofs.laws.conditions_name_no_terms.Goals as goal

pub returns : goal.returns
returns c = no_terms
