use Rattle.std.proofs.Common.{◌≡◌, map, take, sum}
use Rattle.path_walk.specs.Events.{operators}
use Rattle.path_walk.specs.Paths.{saturated_count}
use Rattle.path_walk.proofs.operators.in_exprs.Given as goal

abbrev pub invariant-loop-e : goal.invariant-loop-e
invariant-loop-e l = l.count ≡ saturated_count (sum (map operators (take l.e-index l.exprs)))
