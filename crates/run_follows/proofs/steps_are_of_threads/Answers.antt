use Rattle.run_follows.proofs.Follows.{all_told}
use Rattle.run_follows.proofs.steps_are_of_threads.Goals as goal

pub returns : goal.returns
returns g c = λ machine moves s leads. (all_told machine moves s leads).threads
