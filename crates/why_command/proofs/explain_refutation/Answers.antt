use Rattle.command_frame.proofs.AllRuns.{if_told}
use Rattle.why_command.specs.Answers.{WhyAnswers}
use Rattle.why_command.specs.Meanings.{names_of}
use Rattle.why_command.proofs.ByStatus.{why_answers}
use Rattle.why_command.proofs.explain_refutation.Goals as goal

pub returns-clause-answers : goal.returns-clause-answers
returns-clause-answers g c =
    let call = names_of c.args.why.now in
    let old = g.H.Shelf.tells c.args.shelf.now in
    let new = g.H.Shelf.tells c.run.new.shelf in
    let before = g.K.Sink.tells c.args.sink.now in
    let after = g.K.Sink.tells c.run.new.sink in
    if_told old.held (λ files. WhyAnswers call files (record { status = c.run.result; held = new.held; before = before; after = after }))
    (λ files told. why_answers call files old new c.run.result before after told c.run.ensures.runs)
