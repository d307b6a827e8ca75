use Rattle.path_laws.proofs.of_stuck.Rests.{asks_blocked, left_blocked}
use Rattle.path_laws.proofs.stuck.rest_is_told.Goals as goal

pub returns-clause-asks : goal.returns-clause-asks
returns-clause-asks g c = λ setting h t there done dead. asks_blocked setting h t there done dead

pub returns-clause-left : goal.returns-clause-left
returns-clause-left g c = λ setting h t there done dead. left_blocked setting h t there done dead
