use Rattle.std.proofs.Common.{◌≡◌, length}
use Rattle.tc_lower.proofs.Numbering.{ParametersSoFar}
use Rattle.tc_lower.proofs.tables.OwnThings.add_parameters.Given as goal

-- the names so far and the remaining ones are all names
abbrev pub invariant-loop-rest : goal.invariant-loop-rest
invariant-loop-rest l =
    ParametersSoFar l.fn.self.names.items l.fn.self.slots l.parameters l.self.names.items l.self.slots l.rest × (l.self.handles ≡ l.fn.self.handles)

abbrev pub decreases-loop-rest : goal.decreases-loop-rest
decreases-loop-rest l = length l.rest
