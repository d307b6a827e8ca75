use Rattle.cdcl_lines.proofs.Representing.{drop-passes}
use Rattle.cdcl_lines.proofs.keeping.drop_passes.Goals as goal

pub returns : goal.returns
returns c = drop-passes
