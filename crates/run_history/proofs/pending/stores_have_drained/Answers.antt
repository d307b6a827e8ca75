use Rattle.run_history.proofs.of_pending.Own.{stores_have_drained}
use Rattle.run_history.proofs.pending.stores_have_drained.Goals as goal

pub returns : goal.returns
returns c = stores_have_drained
