use Rattle.memory_order.proofs.Exact.{exact}
use Rattle.memory_order.proofs.laws.own_orders_are_exact.Goals as goal

pub returns : goal.returns
returns c buffered bound paths symbolic nodes w t up whole executed are needed = exact buffered bound paths symbolic nodes w up whole executed are needed t
