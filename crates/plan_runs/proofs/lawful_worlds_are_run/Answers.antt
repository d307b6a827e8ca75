use Rattle.plan_runs.proofs.Laws.{given}
use Rattle.plan_runs.proofs.Rest.{plan_order, plan_drained}
use Rattle.plan_runs.proofs.Runs.{plan_reproduces, plan_is_history}
use Rattle.plan_runs.proofs.lawful_worlds_are_run.Goals as goal

pub returns-clause-reproduces : goal.returns-clause-reproduces
returns-clause-reproduces g c = λ setting nodes w l.
    plan_reproduces setting nodes w l (given setting nodes w l)

pub returns-clause-history : goal.returns-clause-history
returns-clause-history g c = λ setting nodes w l.
    plan_is_history setting nodes w l (given setting nodes w l)

pub returns-clause-order : goal.returns-clause-order
returns-clause-order g c = λ setting nodes w l.
    plan_order setting nodes w l (given setting nodes w l)

pub returns-clause-drained : goal.returns-clause-drained
returns-clause-drained g c = λ setting nodes w l.
    plan_drained setting nodes w l (given setting nodes w l)
