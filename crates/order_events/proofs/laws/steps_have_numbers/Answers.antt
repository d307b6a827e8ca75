use Rattle.order_events.proofs.Numbers.{has_number}
use Rattle.order_events.proofs.laws.steps_have_numbers.Goals as goal

pub returns : goal.returns
returns c = has_number
