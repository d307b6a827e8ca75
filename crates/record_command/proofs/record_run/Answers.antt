use Rattle.record_command.specs.Runs.{plain_record}
use Rattle.record_command.proofs.ByStatus.{by_files}
use Rattle.record_command.proofs.record_run.Goals as goal

pub returns-clause-answers : goal.returns-clause-answers
returns-clause-answers g c =
    by_files (plain_record c.args.call.now) (g.H.Shelf.tells c.args.shelf.now) (g.H.Shelf.tells c.run.new.shelf) c.run.result
    (g.K.Sink.tells c.args.sink.now) (g.K.Sink.tells c.run.new.sink) c.run.ensures.runs
