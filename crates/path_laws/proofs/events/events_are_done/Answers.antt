use Rattle.path_laws.proofs.of_events.Lists.{in_contains, contains_in}
use Rattle.path_laws.proofs.of_events.Events.{event_done, done_event, whole_events}
use Rattle.path_laws.proofs.events.events_are_done.Goals as goal

pub returns-clause-done : goal.returns-clause-done
returns-clause-done g c = λ setting h t x i. event_done setting h t x (in_contains x t.events i)

pub returns-clause-events : goal.returns-clause-events
returns-clause-events g c = λ setting h t k asked done.
    let x = done_event setting h t k asked done in
    (x.0, contains_in x.0 t.events x.1, x.2, x.3, x.4)

pub returns-clause-whole : goal.returns-clause-whole
returns-clause-whole g c = λ setting h t. whole_events setting h t
