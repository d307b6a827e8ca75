use Rattle.run_laws.proofs.Ints.{requests_have_ints}
use Rattle.run_laws.proofs.requests_have_ints.Goals as goal

pub returns : goal.returns
returns g c = λ ops code s n t i passes lawful reached there at. requests_have_ints ops code passes lawful s n t i reached there at
