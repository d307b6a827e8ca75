use Rattle.sync_order.proofs.Whole.{names_no_terms}
use Rattle.sync_order.proofs.laws.sync_names_no_terms.Goals as goal

pub returns : goal.returns
returns c = names_no_terms
