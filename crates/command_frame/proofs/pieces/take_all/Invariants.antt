use Rattle.std.proofs.Common.{ℕ, List, []}
use Rattle.tc_io.specs.Outside.{GaveSoFar}
use Rattle.command_frame.specs.Inputs.{Texts}
use Rattle.command_frame.proofs.pieces.take_all.Given as goal

abbrev pub invariant-loop-turn : goal.invariant-loop-turn
invariant-loop-turn g l = record {
  bytes : List ℕ;
  gave : GaveSoFar (g.H.Shelf.tells l.fn.shelf) (g.H.Shelf.tells l.shelf) l.fn.name bytes;
  knows : (t : Texts) → g.C.WorkInPieces.knows l.fn.command t [] l.fn.state → g.C.WorkInPieces.knows l.fn.command t bytes l.state;
}
