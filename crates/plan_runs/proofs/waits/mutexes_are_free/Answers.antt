use Rattle.plan_runs.proofs.of_waits.Free.{is_free}
use Rattle.plan_runs.proofs.waits.mutexes_are_free.Goals as goal

pub returns : goal.returns
returns g c = λ setting nodes w e m lawful takes_it. is_free setting nodes w lawful e m takes_it
