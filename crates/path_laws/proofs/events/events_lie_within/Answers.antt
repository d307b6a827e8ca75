use Rattle.path_laws.proofs.of_history.Walks.{walk_is}
use Rattle.path_laws.proofs.of_events.Lists.{in_contains}
use Rattle.path_laws.proofs.of_events.Events.{event_within}
use Rattle.path_laws.proofs.events.events_lie_within.Goals as goal

pub returns : goal.returns
returns c = λ code log t x is fits i. event_within code log t.walk (walk_is code log is fits t) x (in_contains x t.events i)
