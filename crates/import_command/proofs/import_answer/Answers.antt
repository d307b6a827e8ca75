use Rattle.command_frame.proofs.AllRuns.{if_told}
use Rattle.import_command.specs.Answers.{ImportAnswers}
use Rattle.import_command.specs.Calls.{plain_import}
use Rattle.import_command.proofs.Answered.{import_answers}
use Rattle.import_command.proofs.import_answer.Goals as goal

pub returns-clause-answers : goal.returns-clause-answers
returns-clause-answers g c =
    let call = plain_import c.args.import.now in
    let old = g.H.Shelf.tells c.args.shelf.now in
    let new = g.H.Shelf.tells c.run.new.shelf in
    let before = g.K.Sink.tells c.args.sink.now in
    let after = g.K.Sink.tells c.run.new.sink in
    if_told old.held (λ files. ImportAnswers call files (record { status = c.run.result; held = new.held; before = before; after = after }))
    (λ files told. import_answers call files old new c.run.result before after told c.run.ensures.runs)
