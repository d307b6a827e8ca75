use Rattle.path_laws.proofs.of_history.Told.{reproduced_along}
use Rattle.path_laws.proofs.of_history.Logged.{is_there, has_done}
use Rattle.path_laws.proofs.history.reproduced_is_along.Goals as goal

pub returns-clause-along : goal.returns-clause-along
returns-clause-along g c = λ machine log moves. reproduced_along machine log moves

pub returns-clause-there : goal.returns-clause-there
returns-clause-there g c = λ setting moves again. is_there setting moves again

pub returns-clause-done : goal.returns-clause-done
returns-clause-done g c = λ setting moves again. has_done setting moves again
