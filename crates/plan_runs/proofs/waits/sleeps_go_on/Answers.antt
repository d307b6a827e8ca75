use Rattle.std.proofs.Common.{refl}
use Rattle.sym_steps.specs.run_history.History.{Did}
use Rattle.condition_order.specs.path_walk.Paths.{paths_of}
use Rattle.world_plan.specs.Plan.{other_of}
use Rattle.plan_runs.proofs.of_waits.Asleep.{event_until, step_until, drain_until, drained_until}
use Rattle.plan_runs.proofs.waits.sleeps_go_on.Goals as goal

pub returns-clause-quiet : goal.returns-clause-quiet
returns-clause-quiet g c = λ setting nodes w p h t k r took other lawful gone.
    step_until setting nodes w lawful p h gone t.index t.walk k r took other t.there

pub returns-clause-event : goal.returns-clause-event
returns-clause-event g c = λ setting nodes w e k r took lawful along.
    let q = e.thread.walk in
    let other = other_of (paths_of setting.code setting.log) w e.deeds e.thread.index q.name r in
    event_until setting nodes w lawful e.position e.deeds e.gone (Did q.name k r took other) along e.thread.index q e.event e.thread.there e.among e.at e.steps
    k r took other refl refl

pub returns-clause-drain : goal.returns-clause-drain
returns-clause-drain g c = λ setting nodes w p h n k cell v lawful gone.
    drain_until setting nodes w lawful p h gone n k cell v

pub returns-clause-drained : goal.returns-clause-drained
returns-clause-drained g c = λ setting nodes w e n k cell v lawful pending.
    drained_until setting nodes w lawful e.position e.deeds e.gone e.thread.index e.thread.walk e.event n k cell v e.thread.there e.among pending e.at
