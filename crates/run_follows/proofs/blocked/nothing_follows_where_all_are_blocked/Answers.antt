use Rattle.run_follows.proofs.of_blocked.Stuck.{nothing_follows}
use Rattle.run_follows.proofs.blocked.nothing_follows_where_all_are_blocked.Goals as goal

pub returns : goal.returns
returns g c = λ machine moves s leads. nothing_follows machine moves s leads
