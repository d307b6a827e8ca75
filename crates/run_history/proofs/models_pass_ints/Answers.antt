use Rattle.run_history.proofs.Ints.{models_pass_ints}
use Rattle.run_history.proofs.models_pass_ints.Goals as goal

pub returns : goal.returns
returns g c = models_pass_ints
