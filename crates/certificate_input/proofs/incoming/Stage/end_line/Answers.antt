use Rattle.std.proofs.Common.{◌∙◌, sym}
use Rattle.std.proofs.lemmas.Result.{on_ok_weaker}
use Rattle.certificate_input.proofs.Stages.{begun_so, taken_so}
use Rattle.certificate_input.proofs.incoming.Stage.end_line.Goals as goal

pub returns : goal.returns
returns c =
    on_ok_weaker c.take.result
    (λ taken front was.
    taken_so c.args.code.now front c.args.line.now c.args.number c.args.self.now c.take.new.self (sym c.begins.ensures ∙ c.if-begins.false)
    c.requires.goes_on was taken) c.take.ensures

pub returns-then-begins : goal.returns-then-begins
returns-then-begins c = λ front was.
    begun_so c.args.code.now front c.args.line.now c.args.number c.args.self.now c.in_ok-self.field-0 (sym c.begins.ensures ∙ c.if-begins.true) was
    c.in_ok-self.ensures
