use Rattle.migrate_command.specs.Meanings.{plain_migrate}
use Rattle.migrate_command.proofs.ByStatus.{by_files}
use Rattle.migrate_command.proofs.migrate_log.Goals as goal

pub returns-clause-answers : goal.returns-clause-answers
returns-clause-answers g c =
    by_files (plain_migrate c.args.migrate.now) (g.H.Shelf.tells c.args.shelf.now) (g.H.Shelf.tells c.run.new.shelf) c.run.result
    (g.K.Sink.tells c.args.sink.now) (g.K.Sink.tells c.run.new.sink) c.run.ensures.runs
