use Rattle.show_rows.proofs.Moves.{AreToldUpTo}
use Rattle.show_rows.proofs.told.tell.Given as goal

abbrev pub invariant-loop-m : goal.invariant-loop-m
invariant-loop-m g l = AreToldUpTo g.M.MemoryModel.ops l.code l.schedule.moves.items l.m-index l.state l.telling
