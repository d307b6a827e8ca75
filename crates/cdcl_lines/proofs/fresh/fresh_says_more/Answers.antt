use Rattle.cdcl_lines.proofs.Freshness.{fresh-says_more}
use Rattle.cdcl_lines.proofs.fresh.fresh_says_more.Goals as goal

pub returns : goal.returns
returns c = fresh-says_more
