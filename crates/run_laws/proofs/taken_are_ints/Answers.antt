use Rattle.run_laws.proofs.Ints.{taken_are_ints}
use Rattle.run_laws.proofs.taken_are_ints.Goals as goal

pub returns : goal.returns
returns g c = λ ops code s n moves passes lawful reached. taken_are_ints ops code passes lawful s n moves reached
