use Rattle.path_laws.proofs.Prefixes.{beginnings_on}
use Rattle.path_laws.proofs.beginnings_are_on_paths.Goals as goal

pub returns : goal.returns
returns g c = beginnings_on
