use Rattle.std.proofs.Common.{length}
use Rattle.tc_lower.proofs.Numbering.{GlobalsSoFar}
use Rattle.tc_lower.proofs.tables.add_globals.Given as goal

-- the names so far and the remaining ones are all names
abbrev pub invariant-loop-rest : goal.invariant-loop-rest
invariant-loop-rest l = GlobalsSoFar l.fn.names.items l.globals l.names.items l.numbers l.rest

abbrev pub decreases-loop-rest : goal.decreases-loop-rest
decreases-loop-rest l = length l.rest
