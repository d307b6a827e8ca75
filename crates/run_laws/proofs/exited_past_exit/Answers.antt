use Rattle.run_laws.proofs.Exits.{exited_past_exit}
use Rattle.run_laws.proofs.exited_past_exit.Goals as goal

pub returns : goal.returns
returns g c = exited_past_exit
