use Rattle.sym_terms.proofs.Folds.{keep, stays_known}
use Rattle.sym_terms.proofs.laws.names_keep_their_values.Goals as goal

pub returns-clause-names : goal.returns-clause-names
returns-clause-names c = keep

pub returns-clause-tables : goal.returns-clause-tables
returns-clause-tables c = stays_known
