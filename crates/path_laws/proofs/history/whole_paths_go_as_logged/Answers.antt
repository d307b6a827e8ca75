use Rattle.path_laws.proofs.of_history.Logged.{all_there, goes_as_logged}
use Rattle.path_laws.proofs.history.whole_paths_go_as_logged.Goals as goal

pub returns-clause-there : goal.returns-clause-there
returns-clause-there g c = λ setting h done. all_there setting h done

pub returns-clause-logged : goal.returns-clause-logged
returns-clause-logged g c = λ setting h done. goes_as_logged setting h done
