use Rattle.run_laws.proofs.Guards.{index_is_within}
use Rattle.run_laws.proofs.accesses_are_within.Goals as goal

pub returns : goal.returns
returns g c = index_is_within
