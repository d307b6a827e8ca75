use Rattle.schedule_replay.proofs.Merge.{LeadsTo}
use Rattle.schedule_replay.proofs.replaying.first_other.Given as goal

abbrev pub invariant-loop-i : goal.invariant-loop-i
invariant-loop-i g l = LeadsTo l.state l.log.log.threads l.i
