use Rattle.walked_logs.proofs.Runs.{fails_walked}
use Rattle.walked_logs.proofs.failures_are_walked.Goals as goal

pub returns : goal.returns
returns g c = λ m allowed begins. fails_walked m allowed begins
