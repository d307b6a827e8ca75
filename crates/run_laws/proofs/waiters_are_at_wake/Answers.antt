use Rattle.run_laws.proofs.Waiters.{waiters_are_at_wake}
use Rattle.run_laws.proofs.waiters_are_at_wake.Goals as goal

pub returns : goal.returns
returns g c = waiters_are_at_wake
