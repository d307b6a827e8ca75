use Rattle.run_history.proofs.Ints.{deeds_have_ints}
use Rattle.run_history.proofs.deeds_have_ints.Goals as goal

pub returns : goal.returns
returns g c = λ ops code moves s passes lawful leads. deeds_have_ints ops code passes lawful moves s leads
