use Rattle.mutex_states.proofs.Keeping.{states_keep}
use Rattle.mutex_states.proofs.laws.states_keep.Goals as goal

pub returns : goal.returns
returns c = states_keep
