use Rattle.run_laws.proofs.Bound.{reached_has_tested}
use Rattle.run_laws.proofs.tests_stand.Goals as goal

pub returns : goal.returns
returns g c = reached_has_tested
