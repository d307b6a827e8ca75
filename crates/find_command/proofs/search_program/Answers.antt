use Rattle.find_command.specs.Calls.{plain_search}
use Rattle.find_command.proofs.Answered.{by_files}
use Rattle.find_command.proofs.search_program.Goals as goal

pub returns-clause-answers : goal.returns-clause-answers
returns-clause-answers g c =
    by_files (plain_search c.args.search.now) (g.H.Shelf.tells c.args.shelf.now) (g.H.Shelf.tells c.run.new.shelf) c.run.result
    (g.K.Sink.tells c.args.sink.now) (g.K.Sink.tells c.run.new.sink) c.run.ensures.runs
