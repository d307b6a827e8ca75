use Rattle.clap_solve.proofs.Meaning.{closed_is_impossible}
use Rattle.clap_solve.proofs.laws.closed_is_impossible.Goals as goal

pub returns : goal.returns
returns g c ops model bound code log lines laws lawful is within closed = closed_is_impossible ops model bound code log laws lawful is within lines closed
