use Rattle.run_follows.proofs.of_blocked.Drained.{all_drained}
use Rattle.run_follows.proofs.blocked.pending_stores_may_drain.Goals as goal

pub returns : goal.returns
returns g c = all_drained
