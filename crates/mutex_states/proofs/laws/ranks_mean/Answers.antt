use Rattle.mutex_states.proofs.RankLaws.{ranks_mean}
use Rattle.mutex_states.proofs.laws.ranks_mean.Goals as goal

pub returns : goal.returns
returns c = ranks_mean
