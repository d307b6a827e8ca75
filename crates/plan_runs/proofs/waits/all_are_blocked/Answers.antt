use Rattle.plan_runs.proofs.of_waits.Blocked.{all_blocked}
use Rattle.plan_runs.proofs.waits.all_are_blocked.Goals as goal

pub returns : goal.returns
returns g c = λ setting nodes w p h lawful deadlock gone done.
    all_blocked setting nodes w lawful p h gone deadlock done
