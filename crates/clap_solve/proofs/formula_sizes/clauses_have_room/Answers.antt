use Rattle.clap_solve.proofs.formula_sizes.Room.{has_room}
use Rattle.clap_solve.proofs.formula_sizes.clauses_have_room.Goals as goal

pub returns : goal.returns
returns c = λ buffered bound code log is. has_room buffered bound code log is
