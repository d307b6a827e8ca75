use Rattle.normal_logs.proofs.Logs.{stuck_to, stuck_from}
use Rattle.normal_logs.proofs.deadlocks_have_normal_logs.Goals as goal

pub returns : goal.returns
returns g c = λ machine allowed.
    (stuck_to machine allowed, stuck_from machine allowed)
