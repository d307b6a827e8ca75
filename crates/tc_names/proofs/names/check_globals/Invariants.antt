use Rattle.std.proofs.Common.{length}
use Rattle.tc_names.proofs.Walks.{GlobalsSoFar}
use Rattle.tc_names.proofs.names.check_globals.Given as goal

-- the fault of the remaining globals is that of all
abbrev pub invariant-loop-rest : goal.invariant-loop-rest
invariant-loop-rest l = GlobalsSoFar l.source l.all l.globals l.count l.rest

abbrev pub decreases-loop-rest : goal.decreases-loop-rest
decreases-loop-rest l = length l.rest
