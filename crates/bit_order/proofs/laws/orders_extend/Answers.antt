use Rattle.bit_order.proofs.Meaning.{base-over}
use Rattle.bit_order.proofs.Three.{ordered-extended}
use Rattle.bit_order.proofs.laws.orders_extend.Goals as goal

pub returns-clause-over : goal.returns-clause-over
returns-clause-over c = base-over

pub returns-clause-extended : goal.returns-clause-extended
returns-clause-extended c = ordered-extended
