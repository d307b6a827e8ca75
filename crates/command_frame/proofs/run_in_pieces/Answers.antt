use Rattle.command_frame.specs.helpers.Failures.{answer_of}
use Rattle.command_frame.proofs.AllRuns.{every_run, every_run_over}
use Rattle.command_frame.proofs.run_in_pieces.Goals as goal

pub returns-clause-runs : goal.returns-clause-runs
returns-clause-runs g c =
    every_run (g.C.Command.meaning c.args.command.now) (g.H.Shelf.tells c.args.shelf.now) (g.H.Shelf.tells c.carry_out_in_pieces-end.new.shelf)
    (answer_of c.carry_out_in_pieces-end.result) c.say_answer.result (g.K.Sink.tells c.args.sink.now) (g.K.Sink.tells c.say_answer.new.sink) c.carry_out_in_pieces-end.ensures c.say_answer.ensures

pub returns-clause-over : goal.returns-clause-over
returns-clause-over g c =
    every_run_over (g.C.Command.meaning c.args.command.now) (g.H.Shelf.tells c.args.shelf.now) (g.H.Shelf.tells c.carry_out_in_pieces-end.new.shelf)
    (answer_of c.carry_out_in_pieces-end.result) c.say_answer.result (g.K.Sink.tells c.args.sink.now) (g.K.Sink.tells c.say_answer.new.sink) c.carry_out_in_pieces-end.ensures c.say_answer.ensures
