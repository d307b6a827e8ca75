use Rattle.std.proofs.Common.{◌≡◌, map, take}
use Rattle.path_walk.specs.Events.{operators_of}
use Rattle.path_walk.specs.Paths.{saturated_count}
use Rattle.path_walk.proofs.operators.in_function.Given as goal

abbrev pub invariant-loop-instr : goal.invariant-loop-instr
invariant-loop-instr l = l.counts.items ≡ map (λ i. saturated_count (operators_of i)) (take l.instr-index l.instr-items)
