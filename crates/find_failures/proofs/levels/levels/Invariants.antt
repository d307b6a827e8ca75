use Rattle.std.proofs.Common.{◌-◌, ◌≤◌}
use Rattle.slot_liveness.specs.Tables.{liveness}
use Rattle.find_failures.specs.helpers.Gone.{AreGone, AreSettled}
use Rattle.find_failures.proofs.levels.levels.Given as goal

abbrev pub invariant-levels : goal.invariant-levels
invariant-levels g l = record {
  gone : AreGone g.M.MemoryModel.ops g.M.MemoryModel.MODEL g.M.MemoryModel.bound l.program.code.now l.asked l.gone;
  settled : AreSettled g.M.MemoryModel.ops g.M.MemoryModel.MODEL l.program.code.now (liveness l.program.live.now) l.asked.kind l.level l.gone;
  few : l.level ≤ l.asked.outcomes;
}

abbrev pub decreases-levels : goal.decreases-levels
decreases-levels g l = l.asked.outcomes - l.level
