use Rattle.least_runs.proofs.Ends.{one_holder}
use Rattle.least_runs.proofs.mutexes_have_one_holder.Goals as goal

pub returns : goal.returns
returns g c = λ machine h n q t u m all here there first second.
    one_holder machine h n q t u m all here there first second
