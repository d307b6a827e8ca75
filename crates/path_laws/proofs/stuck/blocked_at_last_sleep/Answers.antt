use Rattle.path_laws.proofs.of_history.Walks.{walk_is}
use Rattle.path_laws.proofs.of_stuck.Ends.{at_last_sleep}
use Rattle.path_laws.proofs.stuck.blocked_at_last_sleep.Goals as goal

pub returns : goal.returns
returns c = λ code log t condition m k lawful is fits. at_last_sleep code lawful log t.walk (walk_is code log is fits t) condition m k
