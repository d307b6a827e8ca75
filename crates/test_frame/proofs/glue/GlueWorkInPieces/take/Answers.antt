use Rattle.test_frame.proofs.Glues.{taken}
use Rattle.test_frame.proofs.glue.GlueWorkInPieces.take.Goals as goal

pub returns : goal.returns
returns c =
    taken c.extend_from_slice.result c.args.state.now.items c.extend_from_slice.new.self.items c.args.piece.now c.extend_from_slice.ensures.items
