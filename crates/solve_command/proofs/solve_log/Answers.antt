use Rattle.command_frame.proofs.AllRuns.{if_told}
use Rattle.solve_command.specs.Answers.{SolveAnswers}
use Rattle.solve_command.specs.Calls.{plain_solve}
use Rattle.solve_command.proofs.Answered.{solve_answers}
use Rattle.solve_command.proofs.solve_log.Goals as goal

pub returns-clause-answers : goal.returns-clause-answers
returns-clause-answers g c =
    let call = plain_solve c.args.solve.now in
    let old = g.H.Shelf.tells c.args.shelf.now in
    let new = g.H.Shelf.tells c.run.new.shelf in
    let before = g.K.Sink.tells c.args.sink.now in
    let after = g.K.Sink.tells c.run.new.sink in
    if_told old.held (λ files. SolveAnswers call files (record { status = c.run.result; held = new.held; before = before; after = after }))
    (λ files told. solve_answers call files old new c.run.result before after told c.run.ensures.runs)
