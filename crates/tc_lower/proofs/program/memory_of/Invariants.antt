use Rattle.std.proofs.Common.{length}
use Rattle.tc_lower.proofs.Memory.{CellsSoFar}
use Rattle.tc_lower.proofs.program.memory_of.Given as goal

-- the cells so far and the remaining ones are all cells
abbrev pub invariant-loop-rest : goal.invariant-loop-rest
invariant-loop-rest l = CellsSoFar l.globals l.memory.items l.rest

abbrev pub decreases-loop-rest : goal.decreases-loop-rest
decreases-loop-rest l = length l.rest
