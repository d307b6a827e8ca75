use Rattle.plan_runs.proofs.of_memory.Drained.{step_drained, event_drained, drain_drained}
use Rattle.plan_runs.proofs.memory.drains_go_on.Goals as goal

pub returns-clause-step : goal.returns-clause-step
returns-clause-step g c = λ setting nodes w p h n k r took other l gone. step_drained setting nodes w l p h gone n k r took other

pub returns-clause-event : goal.returns-clause-event
returns-clause-event g c = λ setting nodes w e r took other l unbuffered.
    event_drained setting nodes w l e.position e.deeds e.gone e.thread.index e.thread.walk e.event e.thread.there e.among e.at unbuffered r took other

pub returns-clause-drain : goal.returns-clause-drain
returns-clause-drain g c = λ setting nodes w e cell v l pending.
    drain_drained setting nodes w l e.position e.deeds e.gone e.thread.index e.thread.walk e.event e.thread.there e.among e.at cell v
