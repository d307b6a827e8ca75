use Rattle.condition_order.proofs.Groups.{have_their_group}
use Rattle.condition_order.proofs.laws.conditions_have_their_group.Goals as goal

pub returns : goal.returns
returns c = have_their_group
