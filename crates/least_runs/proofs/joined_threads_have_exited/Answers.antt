use Rattle.least_runs.proofs.Ends.{joined_exited}
use Rattle.least_runs.proofs.joined_threads_have_exited.Goals as goal

pub returns : goal.returns
returns c = joined_exited
