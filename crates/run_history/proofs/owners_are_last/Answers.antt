use Rattle.run_history.proofs.Last.{owners_are_last}
use Rattle.run_history.proofs.owners_are_last.Goals as goal

pub returns : goal.returns
returns c = owners_are_last
