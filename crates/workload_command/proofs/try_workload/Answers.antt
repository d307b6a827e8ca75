use Rattle.workload_command.specs.Works.{plain_workload}
use Rattle.workload_command.proofs.ByStatus.{by_files}
use Rattle.workload_command.proofs.try_workload.Goals as goal

pub returns-clause-answers : goal.returns-clause-answers
returns-clause-answers g c =
    by_files (plain_workload c.args.workload.now) (g.H.Shelf.tells c.args.shelf.now) (g.H.Shelf.tells c.run.new.shelf) c.run.result
    (g.K.Sink.tells c.args.sink.now) (g.K.Sink.tells c.run.new.sink) c.run.ensures.runs
