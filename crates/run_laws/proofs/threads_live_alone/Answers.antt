use Rattle.run_laws.proofs.Begun.{threads_live_alone}
use Rattle.run_laws.proofs.threads_live_alone.Goals as goal

pub returns : goal.returns
returns g c = threads_live_alone
