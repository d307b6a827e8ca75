use Rattle.plan_runs.proofs.of_memory.Shown.{quiet_order, event_order, drain_order}
use Rattle.plan_runs.proofs.memory.orders_go_on.Goals as goal

pub returns-clause-quiet : goal.returns-clause-quiet
returns-clause-quiet g c = λ setting nodes w p h d l gone. quiet_order setting nodes w l p h gone d

pub returns-clause-event : goal.returns-clause-event
returns-clause-event g c = λ setting nodes w e r took other l.
    event_order setting nodes w l e.position e.deeds e.gone e.thread.index e.thread.walk e.event.step r took other e.thread.there e.at

pub returns-clause-drain : goal.returns-clause-drain
returns-clause-drain g c = λ setting nodes w e cell v l.
    drain_order setting nodes w l e.position e.deeds e.gone e.thread.index e.thread.walk e.event.step cell v e.thread.there e.at
