use Rattle.cdcl_lines.proofs.Freshness.{fresh-goes_on}
use Rattle.cdcl_lines.proofs.fresh.fresh_goes_on.Goals as goal

pub returns : goal.returns
returns c = fresh-goes_on
