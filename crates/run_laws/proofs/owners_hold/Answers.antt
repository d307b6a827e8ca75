use Rattle.run_laws.proofs.Owners.{owners_hold}
use Rattle.run_laws.proofs.owners_hold.Goals as goal

pub returns : goal.returns
returns g c = owners_hold
