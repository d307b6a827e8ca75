use Rattle.path_laws.proofs.of_events.Owners.{took_it, region_owned}
use Rattle.path_laws.proofs.events.regions_are_owned.Goals as goal

pub returns-clause-open : goal.returns-clause-open
returns-clause-open g c = λ setting h t m. region_owned setting h t m

pub returns-clause-threads : goal.returns-clause-threads
returns-clause-threads g c = λ setting h m n owns. (took_it setting h m n owns).thread
