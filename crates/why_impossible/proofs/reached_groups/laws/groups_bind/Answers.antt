use Rattle.why_impossible.proofs.reached_groups.Binds.{groups_bind}
use Rattle.why_impossible.proofs.reached_groups.laws.groups_bind.Goals as goal

pub returns : goal.returns
returns c = groups_bind
