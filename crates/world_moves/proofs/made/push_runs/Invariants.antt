use Rattle.std.proofs.Common.{◌≡◌, ◌++◌, replicate}
use Rattle.tc_base.specs.declared.moves.Move.TheVariants.{Run}
use Rattle.world_moves.proofs.made.push_runs.Given as goal

abbrev pub invariant-loop : goal.invariant-loop
invariant-loop l = l.moves.items ≡ l.initial.moves.items ++ replicate l.counter (Run l.name)
