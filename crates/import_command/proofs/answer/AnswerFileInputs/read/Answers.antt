use Rattle.std.proofs.Common.{[], ◌∷◌, IfOk, subst}
use Rattle.command_frame.specs.Inputs.{GaveAll, Whole}
use Rattle.import_command.proofs.answer.AnswerFileInputs.read.Goals as goal

pub returns-clause-gave : goal.returns-clause-gave
returns-clause-gave g c =
    let old = g.H.Shelf.tells c.args.shelf.now in
    let new = g.H.Shelf.tells c.read_whole.new.shelf in
    let name = c.args.self.now.name.now in
    subst (λ limit. IfOk c.read_whole.result (λ bytes. GaveAll (Whole limit name ∷ []) old new (bytes.items ∷ []))) c.answer_limit.ensures
    c.read_whole.ensures.gave

pub returns-clause-missing : goal.returns-clause-missing
returns-clause-missing g c = rw c.answer_limit.ensures at c.read_whole.ensures.missing
