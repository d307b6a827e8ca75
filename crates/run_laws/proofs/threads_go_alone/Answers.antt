use Rattle.run_laws.proofs.GoesAlone.{threads_go_alone}
use Rattle.run_laws.proofs.threads_go_alone.Goals as goal

pub returns : goal.returns
returns g c = threads_go_alone
