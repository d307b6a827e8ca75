use Rattle.condition_order.proofs.Exact.{exact}
use Rattle.condition_order.proofs.laws.conditions_are_exact.Goals as goal

pub returns : goal.returns
returns c paths symbolic nodes w n of = exact paths symbolic nodes w of n
