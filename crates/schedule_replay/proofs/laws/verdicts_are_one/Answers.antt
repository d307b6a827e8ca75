use Rattle.schedule_replay.proofs.OneVerdict.{one_verdict}
use Rattle.schedule_replay.proofs.laws.verdicts_are_one.Goals as goal

pub returns : goal.returns
returns g c = one_verdict
