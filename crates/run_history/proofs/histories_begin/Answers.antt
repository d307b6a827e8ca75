use Rattle.run_history.proofs.Grows.{histories_begin}
use Rattle.run_history.proofs.histories_begin.Goals as goal

pub returns : goal.returns
returns g c = histories_begin
