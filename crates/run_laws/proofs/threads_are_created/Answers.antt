use Rattle.run_laws.proofs.Created.{reached_is_created}
use Rattle.run_laws.proofs.threads_are_created.Goals as goal

pub returns : goal.returns
returns g c = reached_is_created
