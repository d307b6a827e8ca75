use Rattle.cdcl_lines.proofs.Satisfying.{full-satisfies}
use Rattle.cdcl_lines.proofs.models.full_satisfies.Goals as goal

pub returns : goal.returns
returns c = full-satisfies
