use Rattle.std.proofs.Common.{length, map, take}
use Rattle.tc_tree.specs.Seen.{thread_of}
use Rattle.tc_names.proofs.Walks.{ThreadsSoFar}
use Rattle.tc_names.proofs.names.check_threads.Given as goal

-- the fault of the remaining threads is that of all
abbrev pub invariant-loop-rest : goal.invariant-loop-rest
invariant-loop-rest l = ThreadsSoFar l.source l.all (take l.globals l.all) (map thread_of l.threads) l.count (map thread_of l.rest)

abbrev pub decreases-loop-rest : goal.decreases-loop-rest
decreases-loop-rest l = length l.rest
