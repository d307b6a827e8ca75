use Rattle.bit_blast.proofs.Rooted.{impossible-unsatisfiable}
use Rattle.bit_blast.proofs.laws.impossible_is_unsatisfiable.Goals as goal

pub returns : goal.returns
returns c = impossible-unsatisfiable
