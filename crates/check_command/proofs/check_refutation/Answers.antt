use Rattle.command_frame.proofs.AllRuns.{if_told}
use Rattle.check_command.specs.Answers.{CheckAnswers}
use Rattle.check_command.specs.Meanings.{names_of}
use Rattle.check_command.proofs.ByStatus.{check_answers}
use Rattle.check_command.proofs.check_refutation.Goals as goal

pub returns-clause-answers : goal.returns-clause-answers
returns-clause-answers g c =
    let call = names_of c.args.check.now in
    let old = g.H.Shelf.tells c.args.shelf.now in
    let new = g.H.Shelf.tells c.run_in_pieces.new.shelf in
    let before = g.K.Sink.tells c.args.sink.now in
    let after = g.K.Sink.tells c.run_in_pieces.new.sink in
    if_told old.held (λ files. CheckAnswers call files (record { status = c.run_in_pieces.result; held = new.held; before = before; after = after }))
    (λ files told. check_answers call files old new c.run_in_pieces.result before after told c.run_in_pieces.ensures.runs)
