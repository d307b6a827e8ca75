use Rattle.run_follows.proofs.of_blocked.Stuck.{deadlock_told}
use Rattle.run_follows.proofs.blocked.deadlocks_are_told.Goals as goal

pub returns : goal.returns
returns g c = λ machine moves s leads. deadlock_told machine moves s leads
