use Rattle.std.proofs.Common.{length}
use Rattle.tc_names.proofs.Walks.{OwnSoFar}
use Rattle.tc_names.proofs.names.check_own.Given as goal

-- the fault of the remaining declarations is that of all
abbrev pub invariant-loop-rest : goal.invariant-loop-rest
invariant-loop-rest l = OwnSoFar l.source l.own l.count l.rest

abbrev pub decreases-loop-rest : goal.decreases-loop-rest
decreases-loop-rest l = length l.rest
