use Rattle.std.proofs.Common.{◌≡◌, take}
use Rattle.mutex_clauses.specs.turns.Turns.{among, is_open}
use Rattle.mutex_clauses.proofs.turns.turn.opens.Given as goal

abbrev pub invariant-loop-region : goal.invariant-loop-region
invariant-loop-region l = l.literals.items ≡ among l.ranked is_open (take l.region l.steps)
