use Rattle.run_history.proofs.of_pending.Nothing.{nothing_is_buffered}
use Rattle.run_history.proofs.pending.nothing_is_buffered.Goals as goal

pub returns : goal.returns
returns g c = nothing_is_buffered
