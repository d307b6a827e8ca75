use Rattle.clap_solve.proofs.mutex_rules.Worlds.{has_worlds}
use Rattle.clap_solve.proofs.mutex_rules.systems_have_worlds.Goals as goal

pub returns : goal.returns
returns c = has_worlds
