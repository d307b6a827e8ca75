use Rattle.path_laws.proofs.Deeds.{steps_are_numbered}
use Rattle.path_laws.proofs.deeds_are_steps.Goals as goal

pub returns : goal.returns
returns g c = steps_are_numbered
