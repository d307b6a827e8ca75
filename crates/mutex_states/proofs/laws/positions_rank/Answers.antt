use Rattle.mutex_states.proofs.RankLaws.{positions_rank}
use Rattle.mutex_states.proofs.laws.positions_rank.Goals as goal

pub returns : goal.returns
returns c = positions_rank
