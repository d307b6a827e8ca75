use Rattle.std.proofs.Common.{◌≡◌, length, fold}
use Rattle.std.specs.List.{range_with_len}
use Rattle.world_moves.specs.Moves.{with_passing}
use Rattle.world_moves.proofs.moves.add_passing.Given as goal

abbrev pub invariant-loop-thread : goal.invariant-loop-thread
invariant-loop-thread l = record {
  made : l.made ≡ fold (with_passing l.paths) l.initial.made (range_with_len 0 l.thread);
  threads : length l.made.steps ≡ length l.paths.threads;
}
