use Rattle.cdcl_lines.proofs.Representing.{same-represented}
use Rattle.cdcl_lines.proofs.keeping.same_are_represented.Goals as goal

pub returns : goal.returns
returns c = same-represented
