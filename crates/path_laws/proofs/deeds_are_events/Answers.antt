use Rattle.path_laws.proofs.Deeds.{deeds_are_events}
use Rattle.path_laws.proofs.deeds_are_events.Goals as goal

pub returns : goal.returns
returns g c = deeds_are_events
