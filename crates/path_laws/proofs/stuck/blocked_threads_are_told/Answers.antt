use Rattle.path_laws.proofs.of_stuck.Stuck.{left_is_blocked, blocked_is_left}
use Rattle.path_laws.proofs.stuck.blocked_threads_are_told.Goals as goal

pub returns-clause-left : goal.returns-clause-left
returns-clause-left g c = λ setting moves t dead again. left_is_blocked setting dead moves again t

pub returns-clause-blocked : goal.returns-clause-blocked
returns-clause-blocked g c = λ setting moves t b dead again. blocked_is_left setting dead moves again t b
