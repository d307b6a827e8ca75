use Rattle.run_laws.proofs.Main.{main_is_there}
use Rattle.run_laws.proofs.main_is_there.Goals as goal

pub returns : goal.returns
returns g c = main_is_there
