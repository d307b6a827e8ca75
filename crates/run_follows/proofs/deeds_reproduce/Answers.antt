use Rattle.run_follows.proofs.Reproduced.{deeds_reproduce}
use Rattle.run_follows.proofs.deeds_reproduce.Goals as goal

pub returns : goal.returns
returns g c = deeds_reproduce
