use Rattle.path_laws.proofs.of_history.Told.{run_is_along, along_is_run}
use Rattle.path_laws.proofs.history.histories_along_are_of_runs.Goals as goal

pub returns-clause-history : goal.returns-clause-history
returns-clause-history g c = λ machine log moves s. run_is_along machine log moves s

pub returns-clause-run : goal.returns-clause-run
returns-clause-run g c = λ machine log h. along_is_run machine log h
