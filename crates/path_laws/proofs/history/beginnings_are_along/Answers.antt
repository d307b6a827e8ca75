use Rattle.path_laws.proofs.of_history.Told.{first_along}
use Rattle.path_laws.proofs.of_history.Stays.{start_along}
use Rattle.path_laws.proofs.history.beginnings_are_along.Goals as goal

pub returns-clause-start : goal.returns-clause-start
returns-clause-start g c = λ machine log. start_along machine log

pub returns-clause-first : goal.returns-clause-first
returns-clause-first g c = λ machine log first later. first_along machine log first later
