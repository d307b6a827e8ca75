use Rattle.plan_runs.proofs.of_memory.Taken.{takes_its}
use Rattle.plan_runs.proofs.memory.loads_take_theirs.Goals as goal

pub returns : goal.returns
returns g c = λ setting nodes w e r course a m l asks there among step takes.
    takes_its setting nodes w l e r asks course a m there among step takes
