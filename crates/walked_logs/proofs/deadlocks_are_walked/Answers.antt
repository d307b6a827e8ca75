use Rattle.walked_logs.proofs.Runs.{stuck_walked}
use Rattle.walked_logs.proofs.deadlocks_are_walked.Goals as goal

pub returns : goal.returns
returns g c = λ m allowed. stuck_walked m allowed
