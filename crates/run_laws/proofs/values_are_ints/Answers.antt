use Rattle.run_laws.proofs.Ints.{values_are_ints}
use Rattle.run_laws.proofs.values_are_ints.Goals as goal

pub returns : goal.returns
returns g c = λ ops code s passes lawful reached. values_are_ints ops code passes lawful s reached
