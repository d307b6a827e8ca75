use Rattle.refute_check.proofs.Sound.{closed-means-unsatisfiable}
use Rattle.refute_check.proofs.whole.closed_means_unsatisfiable.Goals as goal

pub returns : goal.returns
returns c = closed-means-unsatisfiable
