use Rattle.bit_order.proofs.Asking.{grows-completed, completed-asked}
use Rattle.bit_order.proofs.laws.completed_orders_ask_all.Goals as goal

pub returns-clause-grows : goal.returns-clause-grows
returns-clause-grows c = grows-completed

pub returns-clause-asked : goal.returns-clause-asked
returns-clause-asked c = completed-asked
