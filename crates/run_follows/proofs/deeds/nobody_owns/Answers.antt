use Rattle.run_follows.proofs.of_deeds.Nobody.{nobody_owns}
use Rattle.run_follows.proofs.deeds.nobody_owns.Goals as goal

pub returns : goal.returns
returns c = nobody_owns
