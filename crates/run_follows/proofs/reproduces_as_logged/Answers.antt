use Rattle.run_follows.proofs.Reproduced.{reproduces_as_logged}
use Rattle.run_follows.proofs.reproduces_as_logged.Goals as goal

pub returns : goal.returns
returns g c = reproduces_as_logged
