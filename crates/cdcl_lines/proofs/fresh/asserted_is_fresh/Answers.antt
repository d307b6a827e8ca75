use Rattle.cdcl_lines.proofs.Freshness.{asserted-fresh}
use Rattle.cdcl_lines.proofs.fresh.asserted_is_fresh.Goals as goal

pub returns : goal.returns
returns c = asserted-fresh
