use Rattle.run_laws.proofs.Whole.{reached_is_whole}
use Rattle.run_laws.proofs.states_are_whole.Goals as goal

pub returns : goal.returns
returns g c = reached_is_whole
