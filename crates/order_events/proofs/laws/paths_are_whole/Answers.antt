use Rattle.order_events.proofs.Whole.{whole}
use Rattle.order_events.proofs.laws.paths_are_whole.Goals as goal

pub returns : goal.returns
returns c = whole
