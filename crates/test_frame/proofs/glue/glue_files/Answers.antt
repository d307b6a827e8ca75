use Rattle.test_frame.proofs.glue.glue_files.Goals as goal

pub returns : goal.returns
returns g c = rw (c.new-glue.ensures.first, c.new-glue.ensures.last) at c.run_in_pieces.ensures.runs
