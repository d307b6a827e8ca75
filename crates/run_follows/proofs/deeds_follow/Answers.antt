use Rattle.run_follows.proofs.Follows.{all_follow}
use Rattle.run_follows.proofs.deeds_follow.Goals as goal

pub returns : goal.returns
returns g c = λ machine moves s leads. all_follow machine moves s leads
