use Rattle.cdcl_lines.proofs.Representing.{opening-represented}
use Rattle.cdcl_lines.proofs.keeping.opening_is_represented.Goals as goal

pub returns : goal.returns
returns c = opening-represented
