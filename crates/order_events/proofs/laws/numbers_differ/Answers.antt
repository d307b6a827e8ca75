use Rattle.order_events.proofs.Numbers.{one_step}
use Rattle.order_events.proofs.laws.numbers_differ.Goals as goal

pub returns : goal.returns
returns c = one_step
