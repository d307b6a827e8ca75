use Rattle.cdcl_lines.proofs.Representing.{shown-passes}
use Rattle.cdcl_lines.proofs.keeping.shown_passes.Goals as goal

pub returns : goal.returns
returns c = shown-passes
