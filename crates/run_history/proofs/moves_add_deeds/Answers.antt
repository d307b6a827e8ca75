use Rattle.run_history.proofs.Grows.{moves_add_deeds}
use Rattle.run_history.proofs.moves_add_deeds.Goals as goal

pub returns : goal.returns
returns g c = moves_add_deeds
