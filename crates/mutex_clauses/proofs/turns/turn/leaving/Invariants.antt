use Rattle.std.proofs.Common.{◌≡◌, take}
use Rattle.mutex_clauses.specs.turns.Turns.{among, leaves}
use Rattle.mutex_clauses.proofs.turns.turn.leaving.Given as goal

abbrev pub invariant-loop-region : goal.invariant-loop-region
invariant-loop-region l = l.literals.items ≡ among l.ranked (leaves l.shape) (take l.region l.steps)
