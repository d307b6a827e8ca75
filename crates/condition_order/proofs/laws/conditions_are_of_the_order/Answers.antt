use Rattle.condition_order.proofs.Within.{of_the_order}
use Rattle.condition_order.proofs.laws.conditions_are_of_the_order.Goals as goal

pub returns : goal.returns
returns c = of_the_order
