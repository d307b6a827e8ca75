use Rattle.bit_order.proofs.ClauseLaws.{clauses-mean}
use Rattle.bit_order.proofs.laws.clauses_mean.Goals as goal

pub returns : goal.returns
returns c = clauses-mean
