use Rattle.run_follows.proofs.Stuck.{stuck_is_told}
use Rattle.run_follows.proofs.stuck_is_told.Goals as goal

pub returns : goal.returns
returns g c = λ machine moves s leads. stuck_is_told machine moves s leads
