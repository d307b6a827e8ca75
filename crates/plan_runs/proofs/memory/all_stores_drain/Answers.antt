use Rattle.plan_runs.proofs.of_memory.Empty.{all_there}
use Rattle.plan_runs.proofs.memory.all_stores_drain.Goals as goal

pub returns : goal.returns
returns g c = λ setting nodes w p h l. all_there setting nodes w l p h
