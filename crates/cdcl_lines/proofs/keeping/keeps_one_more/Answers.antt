use Rattle.cdcl_lines.proofs.Formulas.{keeps-one_more}
use Rattle.cdcl_lines.proofs.keeping.keeps_one_more.Goals as goal

pub returns : goal.returns
returns c = keeps-one_more
