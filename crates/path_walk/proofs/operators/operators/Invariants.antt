use Rattle.std.proofs.Common.{◌≡◌, map, take, sum}
use Rattle.path_walk.specs.Steps.{steps_at}
use Rattle.path_walk.specs.Events.{operators_of}
use Rattle.path_walk.specs.Paths.{saturated_count}
use Rattle.path_walk.proofs.operators.operators.Given as goal

abbrev pub invariant-loop-place : goal.invariant-loop-place
invariant-loop-place l = l.total ≡ saturated_count (sum (map (λ s. operators_of s.instr) (steps_at l.code l.function (take l.place-index l.places))))
