use Rattle.plan_runs.proofs.of_memory.Empty.{empty_there}
use Rattle.plan_runs.proofs.memory.buffers_are_empty.Goals as goal

pub returns : goal.returns
returns g c = λ setting nodes w e l. empty_there setting nodes w l e
