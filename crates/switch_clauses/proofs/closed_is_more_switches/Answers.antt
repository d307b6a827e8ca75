use Rattle.switch_clauses.proofs.Meaning.{closed_is_more}
use Rattle.switch_clauses.proofs.closed_is_more_switches.Goals as goal

pub returns : goal.returns
returns g c = λ ops model bound code log most lines moves laws lawful is within closed again.
    closed_is_more ops model bound code log most laws lawful is within lines moves closed again
