use Rattle.list_command.proofs.ByProgram.{by_files}
use Rattle.list_command.proofs.list.Goals as goal

pub returns-clause-answers : goal.returns-clause-answers
returns-clause-answers g c =
    by_files (g.H.Shelf.tells c.args.shelf.now).held c.args.list.now.program.name.now c.run.result (g.K.Sink.tells c.args.sink.now)
    (g.K.Sink.tells c.run.new.sink) c.run.ensures.over
