use Rattle.command_frame.proofs.AllRuns.{if_told}
use Rattle.least_command.specs.Answers.{LeastAnswers}
use Rattle.least_command.specs.Calls.{plain_least}
use Rattle.least_command.proofs.Answered.{least_answers}
use Rattle.least_command.proofs.find_least.Goals as goal

pub returns-clause-answers : goal.returns-clause-answers
returns-clause-answers g c =
    let call = plain_least c.args.least.now in
    let old = g.H.Shelf.tells c.args.shelf.now in
    let new = g.H.Shelf.tells c.run.new.shelf in
    let before = g.K.Sink.tells c.args.sink.now in
    let after = g.K.Sink.tells c.run.new.sink in
    if_told old.held (λ files. LeastAnswers call files (record { status = c.run.result; held = new.held; before = before; after = after }))
    (λ files told. least_answers call files old new c.run.result before after told c.run.ensures.runs)
