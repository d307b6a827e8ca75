use Rattle.run_history.proofs.of_pending.Stuck.{stuck_is_drained}
use Rattle.run_history.proofs.pending.stuck_buffers_are_empty.Goals as goal

pub returns : goal.returns
returns g c = stuck_is_drained
