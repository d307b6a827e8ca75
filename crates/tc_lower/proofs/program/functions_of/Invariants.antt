use Rattle.std.proofs.Common.{length}
use Rattle.tc_lower.proofs.Memory.{FunctionsSoFar}
use Rattle.tc_lower.proofs.program.functions_of.Given as goal

-- the functions so far and the remaining ones are all functions
abbrev pub invariant-loop-rest : goal.invariant-loop-rest
invariant-loop-rest l = FunctionsSoFar l.source l.all l.fn.program.threads.items l.functions.items l.rest

abbrev pub decreases-loop-rest : goal.decreases-loop-rest
decreases-loop-rest l = length l.rest
