use Rattle.cdcl_lines.proofs.Formulas.{keeps-on}
use Rattle.cdcl_lines.proofs.keeping.keeps_on.Goals as goal

pub returns : goal.returns
returns c = keeps-on
