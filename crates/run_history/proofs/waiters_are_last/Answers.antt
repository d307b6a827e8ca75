use Rattle.run_history.proofs.Last.{waiters_are_last}
use Rattle.run_history.proofs.waiters_are_last.Goals as goal

pub returns : goal.returns
returns c = waiters_are_last
