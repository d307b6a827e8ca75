use Rattle.std.proofs.Common.{◌≡◌, Some, take}
use Rattle.tc_code.specs.Run.{run}
use Rattle.test_parts.proofs.machine.play.Given as goal

abbrev pub invariant-loop-k : goal.invariant-loop-k
invariant-loop-k g l = run g.M.MemoryModel.ops l.code (take l.k l.made) ≡ Some l.state
