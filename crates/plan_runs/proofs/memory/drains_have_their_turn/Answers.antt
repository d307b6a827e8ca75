use Rattle.plan_runs.proofs.of_memory.Turn.{has_turn}
use Rattle.plan_runs.proofs.memory.drains_have_their_turn.Goals as goal

pub returns : goal.returns
returns g c = λ setting nodes w e l pending done.
    has_turn setting nodes w l e.position e.deeds e.gone e.thread.index e.thread.walk e.thread.there e.event e.among pending e.at done
