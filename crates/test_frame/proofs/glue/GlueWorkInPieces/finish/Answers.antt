use Rattle.test_frame.proofs.Glues.{glues_all}
use Rattle.test_frame.proofs.glue.GlueWorkInPieces.finish.Goals as goal

pub returns : goal.returns
returns c = λ t bytes h. glues_all t bytes _ h
