use Rattle.std.proofs.Common.{◌<◌, length, get_or}
use Rattle.cdcl_learn.proofs.conflicts.level_after.Given as goal

abbrev pub invariant-loop-level : goal.invariant-loop-level
invariant-loop-level l = record {
  within : l.level < length l.trail.starts;
  after : l.place < get_or l.trail.starts l.level 0;
}

abbrev pub decreases-loop-level : goal.decreases-loop-level
decreases-loop-level l = l.level
