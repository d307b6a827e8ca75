use Rattle.clap_solve.proofs.mutex_rules.Stated.{states_rules}
use Rattle.clap_solve.proofs.mutex_rules.systems_state_rules.Goals as goal

pub returns : goal.returns
returns c = states_rules
