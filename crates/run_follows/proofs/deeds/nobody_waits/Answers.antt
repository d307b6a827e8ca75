use Rattle.run_follows.proofs.of_deeds.Nobody.{nobody_waits}
use Rattle.run_follows.proofs.deeds.nobody_waits.Goals as goal

pub returns : goal.returns
returns c = nobody_waits
