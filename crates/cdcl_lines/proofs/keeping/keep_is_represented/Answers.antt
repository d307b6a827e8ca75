use Rattle.cdcl_lines.proofs.Representing.{keep-represented}
use Rattle.cdcl_lines.proofs.keeping.keep_is_represented.Goals as goal

pub returns : goal.returns
returns c = keep-represented
