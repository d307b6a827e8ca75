use Rattle.mutex_states.proofs.AllMutexes.{all_larger}
use Rattle.mutex_states.proofs.laws.states_have_room.Goals as goal

pub returns : goal.returns
returns c = all_larger
