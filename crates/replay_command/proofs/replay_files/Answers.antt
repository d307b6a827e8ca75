use Rattle.replay_command.proofs.ByFiles.{by_files}
use Rattle.replay_command.proofs.replay_files.Goals as goal

pub returns-clause-answers : goal.returns-clause-answers
returns-clause-answers g c =
    by_files (g.H.Shelf.tells c.args.shelf.now).held c.args.replay.now.inputs.0.0.name.now c.args.replay.now.inputs.0.1.name.now
    c.args.replay.now.inputs.1.name.now c.run.result (g.K.Sink.tells c.args.sink.now) (g.K.Sink.tells c.run.new.sink) c.run.ensures.over
