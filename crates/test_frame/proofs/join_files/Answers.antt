use Rattle.test_frame.proofs.join_files.Goals as goal

pub returns : goal.returns
returns g c = rw (c.new-join.ensures.inputs, c.new-join.ensures.out, c.new-join.ensures.back) at c.run.ensures.runs
