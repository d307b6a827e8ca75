use Rattle.sym_laws.proofs.Valued.{valued}
use Rattle.sym_laws.proofs.runs_have_values.Goals as goal

pub returns : goal.returns
returns g c = λ ops code log nodes loads moves s ints lawful is fits terms leads on agrees.
    valued ops code log nodes loads ints lawful is fits terms moves s leads on agrees
