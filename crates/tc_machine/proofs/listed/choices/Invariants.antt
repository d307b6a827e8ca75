use Rattle.std.proofs.Common.{◌≡◌, ◌++◌, map, Some}
use Rattle.std.specs.List.{All, flat_map}
use Rattle.std.specs.FinMap as fin
use Rattle.tc_machine.specs.Moves.{move_of, moves_of, enabled_moves}
use Rattle.tc_machine.proofs.listed.choices.Given as goal

-- the moves found so far and those of the threads to come are all moves, and these are threads
abbrev pub invariant-loop-name : goal.invariant-loop-name
invariant-loop-name g l = record {
  found : map move_of l.found.items ++ flat_map (moves_of g.M.MemoryModel.ops l.code l.state) (map (λ e. e.0) l.name-iterator)
      ≡ enabled_moves g.M.MemoryModel.ops l.code l.state;
  there : All (λ e. fin.get l.state.threads e.0 ≡ Some e.1) l.name-iterator;
}
