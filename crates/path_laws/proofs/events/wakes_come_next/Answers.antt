use Rattle.path_laws.proofs.of_history.Walks.{walk_is}
use Rattle.path_laws.proofs.of_events.Lists.{in_contains}
use Rattle.path_laws.proofs.of_events.Sleeps.{walk_wakes}
use Rattle.path_laws.proofs.events.wakes_come_next.Goals as goal

pub returns-clause-wake : goal.returns-clause-wake
returns-clause-wake c = λ code log t k s lawful is fits i.
    (walk_wakes code lawful log t.walk (walk_is code log is fits t) s (in_contains s t.sleeps i)).next k

pub returns-clause-last : goal.returns-clause-last
returns-clause-last c = λ code log t s lawful is fits i.
    (walk_wakes code lawful log t.walk (walk_is code log is fits t) s (in_contains s t.sleeps i)).last
