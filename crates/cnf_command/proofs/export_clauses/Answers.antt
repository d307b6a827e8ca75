use Rattle.command_frame.proofs.AllRuns.{if_told}
use Rattle.cnf_command.specs.Answers.{CnfAnswers}
use Rattle.cnf_command.specs.Calls.{plain_cnf}
use Rattle.cnf_command.proofs.Answered.{cnf_answers}
use Rattle.cnf_command.proofs.export_clauses.Goals as goal

pub returns-clause-answers : goal.returns-clause-answers
returns-clause-answers g c =
    let call = plain_cnf c.args.cnf.now in
    let old = g.H.Shelf.tells c.args.shelf.now in
    let new = g.H.Shelf.tells c.run.new.shelf in
    let before = g.K.Sink.tells c.args.sink.now in
    let after = g.K.Sink.tells c.run.new.sink in
    if_told old.held (λ files. CnfAnswers call files (record { status = c.run.result; held = new.held; before = before; after = after }))
    (λ files told. cnf_answers call files old new c.run.result before after told c.run.ensures.runs)
