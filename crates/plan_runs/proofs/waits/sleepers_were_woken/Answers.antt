use Rattle.plan_runs.proofs.of_waits.Waking.{waits_no_more}
use Rattle.plan_runs.proofs.waits.sleepers_were_woken.Goals as goal

pub returns : goal.returns
returns g c = λ setting nodes w e condition lawful. waits_no_more setting nodes w lawful e condition
