use Rattle.least_runs.proofs.Least.{has_least}
use Rattle.least_runs.proofs.failing_runs_have_least_ones.Goals as goal

pub returns : goal.returns
returns g c = λ machine h f all fails. has_least machine f h all fails
