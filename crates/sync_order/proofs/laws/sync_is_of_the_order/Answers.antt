use Rattle.sync_order.proofs.Whole.{is_in_order}
use Rattle.sync_order.proofs.laws.sync_is_of_the_order.Goals as goal

pub returns : goal.returns
returns c paths o whole events sleeps = is_in_order paths whole o events sleeps
