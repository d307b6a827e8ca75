use Rattle.sym_terms.proofs.Growth.{are_with, grows, is_given, is_there}
use Rattle.sym_terms.proofs.laws.terms_grow.Goals as goal

pub returns-clause-lawful : goal.returns-clause-lawful
returns-clause-lawful c = are_with

pub returns-clause-end : goal.returns-clause-end
returns-clause-end c = grows

pub returns-clause-named : goal.returns-clause-named
returns-clause-named c = is_given

pub returns-clause-known : goal.returns-clause-known
returns-clause-known c = is_there
