use Rattle.std.proofs.Common.{◌∙◌, ◌++◌, ℕ, [], take, length, Err, ap, inl, refl, subst}
use Rattle.tc_io.specs.Outside.{GavePiece}
use Rattle.tc_io.proofs.Readings.{begins, gives, gave_all, piece_failed}
use Rattle.command_frame.proofs.PieceByPiece.{held_so_far, only_fault, still_open}
use Rattle.command_frame.proofs.pieces.take_all.Goals as goal

pub loop-turn-init : goal.loop-turn-init
loop-turn-init g c = record {
  bytes = [];
  gave = begins (g.H.Shelf.tells c.args.shelf.now) (g.H.Shelf.tells c.open.new.shelf) c.args.name.now c.in_ok-open.ensures.opened;
  knows = λ t h. h;
}

pub piece-requires-clause-opened : goal.piece-requires-clause-opened
piece-requires-clause-opened g c =
    still_open (g.H.Shelf.tells c.args.shelf.now) (g.H.Shelf.tells c.loop-turn.shelf) c.args.name.now c.loop-turn.invariant.bytes
    c.loop-turn.invariant.gave

pub returns-in-Ok-eq0-clause-gave : goal.returns-in-Ok-eq0-clause-gave
returns-in-Ok-eq0-clause-gave g c =
    let tells = g.H.Shelf.tells in
    let none = subst (λ (k : ℕ). GavePiece (tells c.loop-turn.shelf) (tells c.piece.new.self) (take k c.piece.new.buf)) c.in-Ok-eq0.field-0-test
    c.in-Ok-eq0.ensures.ok in (
      c.loop-turn.invariant.bytes,
      gave_all (tells c.args.shelf.now) (tells c.loop-turn.shelf) (tells c.piece.new.self) c.args.name.now c.loop-turn.invariant.bytes
          c.loop-turn.invariant.gave none,
      c.loop-turn.invariant.knows,
    )

pub returns-in-Err-Failed-clause-missing : goal.returns-in-Err-Failed-clause-missing
returns-in-Err-Failed-clause-missing g c =
    let tells = g.H.Shelf.tells in
    let failed = c.piece.ensures.failed (c.in-Err-Failed.is ∙ ap Err (only_fault c.in-Err-Failed.field-0)) in
    inl (
      refl,
      piece_failed (tells c.args.shelf.now) (tells c.loop-turn.shelf) (tells c.piece.new.self) c.args.name.now c.loop-turn.invariant.bytes
          (length c.piece.new.buf) c.loop-turn.invariant.gave failed,
    )

pub loop-turn-preserved : goal.loop-turn-preserved
loop-turn-preserved g c =
    let tells = g.H.Shelf.tells in
    let piece = take c.in-Ok.count c.piece.new.buf in
    let bytes = c.loop-turn.invariant.bytes in
    record {
      bytes = bytes ++ piece;
      gave = gives (tells c.args.shelf.now) (tells c.loop-turn.shelf) (tells c.piece.new.self) c.args.name.now bytes piece c.loop-turn.invariant.gave
          c.in-Ok.ensures.ok;
      knows = λ t h. c.in_ok-take-in-Ok.ensures t bytes (c.loop-turn.invariant.knows t h);
    }

pub returns-clause-missing : goal.returns-clause-missing
returns-clause-missing g c =
    held_so_far (g.H.Shelf.tells c.args.shelf.now) (g.H.Shelf.tells c.loop-turn.shelf) c.args.name.now c.loop-turn.invariant.bytes
    c.loop-turn.invariant.gave
