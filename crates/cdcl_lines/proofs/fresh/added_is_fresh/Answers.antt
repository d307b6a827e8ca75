use Rattle.cdcl_lines.proofs.Freshness.{added-fresh}
use Rattle.cdcl_lines.proofs.fresh.added_is_fresh.Goals as goal

pub returns : goal.returns
returns c = added-fresh
