use Rattle.std.proofs.Common.{length}
use Rattle.tc_lower.proofs.Numbering.{LocalsSoFar}
use Rattle.tc_lower.proofs.tables.OwnThings.add_locals.Given as goal

-- the names so far and the remaining ones are all names
abbrev pub invariant-loop-rest : goal.invariant-loop-rest
invariant-loop-rest l = LocalsSoFar l.fn.self.names.items l.fn.self.slots l.fn.self.handles l.locals l.self.names.items l.self.slots l.self.handles l.rest

abbrev pub decreases-loop-rest : goal.decreases-loop-rest
decreases-loop-rest l = length l.rest
