use Rattle.plan_runs.proofs.of_waits.Threads.{has_exited}
use Rattle.plan_runs.proofs.waits.joins_find_exits.Goals as goal

pub returns : goal.returns
returns g c = λ setting nodes w e k lawful joins. has_exited setting nodes w lawful e k joins
