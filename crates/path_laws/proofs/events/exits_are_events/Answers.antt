use Rattle.path_laws.proofs.of_events.Waiters.{exits_told}
use Rattle.path_laws.proofs.events.exits_are_events.Goals as goal

pub returns : goal.returns
returns g c = λ setting h t. exits_told setting h t
