use Rattle.cdcl_lines.proofs.Showing.{shows-there}
use Rattle.cdcl_lines.proofs.keeping.hints_are_there.Goals as goal

pub returns : goal.returns
returns c = shows-there
