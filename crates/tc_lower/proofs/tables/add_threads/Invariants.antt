use Rattle.std.proofs.Common.{length}
use Rattle.tc_lower.proofs.Numbering.{ThreadsSoFar}
use Rattle.tc_lower.proofs.tables.add_threads.Given as goal

-- the names so far and the remaining ones are all names
abbrev pub invariant-loop-rest : goal.invariant-loop-rest
invariant-loop-rest l = ThreadsSoFar l.fn.names.items l.threads l.names.items l.function l.rest

abbrev pub decreases-loop-rest : goal.decreases-loop-rest
decreases-loop-rest l = length l.rest
