use Rattle.path_laws.proofs.States.{going_along}
use Rattle.path_laws.proofs.threads_go_along.Goals as goal

pub returns : goal.returns
returns g c = going_along
