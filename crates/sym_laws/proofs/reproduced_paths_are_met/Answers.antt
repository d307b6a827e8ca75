use Rattle.sym_laws.proofs.Whole.{are_met}
use Rattle.sym_laws.proofs.reproduced_paths_are_met.Goals as goal

pub returns : goal.returns
returns g c = λ ops code log nodes loads moves course ints lawful is fits terms r agrees one.
    are_met ops code log nodes loads ints lawful is fits terms moves r agrees course one
