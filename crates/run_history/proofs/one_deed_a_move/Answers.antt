use Rattle.run_history.proofs.Grows.{one_deed_a_move}
use Rattle.run_history.proofs.one_deed_a_move.Goals as goal

pub returns : goal.returns
returns g c = one_deed_a_move
