use Rattle.mutex_states.proofs.AllTurns.{states_follow}
use Rattle.mutex_states.proofs.laws.states_follow.Goals as goal

pub returns : goal.returns
returns c = states_follow
