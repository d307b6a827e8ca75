use Rattle.sym_exec.proofs.Ints.{brings, written}
use Rattle.sym_exec.proofs.laws.exchanges_replace.Goals as goal

pub returns-clause-values : goal.returns-clause-values
returns-clause-values c = brings

pub returns-clause-terms : goal.returns-clause-terms
returns-clause-terms c = written
