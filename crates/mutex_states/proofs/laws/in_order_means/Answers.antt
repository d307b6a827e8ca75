use Rattle.mutex_states.proofs.Ordered.{in_order_means}
use Rattle.mutex_states.proofs.laws.in_order_means.Goals as goal

pub returns : goal.returns
returns c = in_order_means
