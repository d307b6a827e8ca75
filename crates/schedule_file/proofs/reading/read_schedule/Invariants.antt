use Rattle.std.proofs.Common.{length}
use Rattle.schedule_file.proofs.Schedules.{SoFar}
use Rattle.schedule_file.proofs.reading.read_schedule.Given as goal

abbrev pub invariant-loop-rest : goal.invariant-loop-rest
invariant-loop-rest l = SoFar l.fn.text l.model l.moves.items l.rest

abbrev pub decreases-loop-rest : goal.decreases-loop-rest
decreases-loop-rest l = length l.rest
