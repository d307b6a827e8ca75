use Rattle.std.proofs.Common.{◌≡◌, length}
use Rattle.order_formula.specs.Truth.{Serves}
use Rattle.world_moves.specs.Moves.{made_to}
use Rattle.world_moves.proofs.moves.Told.events_made.Given as goal

abbrev pub invariant-loop-position : goal.invariant-loop-position
invariant-loop-position g l = record {
  made : l.made
      ≡ made_to g.M.MemoryModel.BUFFERED g.M.MemoryModel.bound l.self.execution.now l.self.world.now l.position;
  threads : length l.made.steps ≡ length l.self.execution.now.paths.threads;
  table : Serves l.self.execution.now.terms l.self.world.now l.values;
}
