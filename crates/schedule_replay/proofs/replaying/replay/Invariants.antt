use Rattle.std.proofs.Common.{◌≡◌, Some, take}
use Rattle.tc_code.specs.Run.{run}
use Rattle.schedule_replay.proofs.replaying.replay.Given as goal

abbrev pub invariant-loop-i : goal.invariant-loop-i
invariant-loop-i g l = run g.M.MemoryModel.ops l.code (take l.i l.schedule.moves.items) ≡ Some l.state
