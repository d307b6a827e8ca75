use Rattle.sync_order.proofs.Whole.{exactly}
use Rattle.sync_order.proofs.laws.sync_is_exact.Goals as goal

pub returns : goal.returns
returns c buffered bound code paths symbolic nodes w g world is = exactly paths buffered bound code symbolic nodes w world g is
