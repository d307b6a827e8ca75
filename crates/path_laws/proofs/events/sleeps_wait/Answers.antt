use Rattle.path_laws.proofs.of_events.Waiters.{sleep_waits, sleeps_still, waiter_named}
use Rattle.path_laws.proofs.events.sleeps_wait.Goals as goal

pub returns-clause-asleep : goal.returns-clause-asleep
returns-clause-asleep g c = λ setting h t condition. sleep_waits setting h t condition

pub returns-clause-still : goal.returns-clause-still
returns-clause-still g c = λ setting h n s. sleeps_still setting h n s

pub returns-clause-threads : goal.returns-clause-threads
returns-clause-threads g c = λ setting h condition n. waiter_named setting h condition n
