use Rattle.std.proofs.Common.{◌∙◌, length, ap, sym, subst}
use Rattle.refute_check.specs.Broken.{BreaksAt}
use Rattle.certificate_input.proofs.LineTexts.{broken_line, no_line, one_line}
use Rattle.certificate_input.proofs.lines.line_in.Goals as goal

pub returns-then-lines-eq1 : goal.returns-then-lines-eq1
returns-then-lines-eq1 c =
    one_line c.args.line.now c.in-Ok.field-0-0 c.in-Ok.derivation c.in-Ok.ensures.found.0
    (c.in-Ok.ensures.found.1 ∙ c.deref.ensures.value ∙ c.in_ok-text.ensures) (sym (ap length c.lines.ensures.lines) ∙ c.if-lines-eq1.true)

pub returns-in-Ok : goal.returns-in-Ok
returns-in-Ok c =
    no_line c.args.line.now c.in-Ok.field-0-0 c.in-Ok.derivation c.in-Ok.ensures.found.0
    (c.in-Ok.ensures.found.1 ∙ c.deref.ensures.value ∙ c.in_ok-text.ensures) (λ one. c.if-lines-eq1.false (ap length c.lines.ensures.lines ∙ one))

pub returns-in-Err-Form : goal.returns-in-Err-Form
returns-in-Err-Form c =
    broken_line c.args.line.now c.in-Err-Form.field-0-0
    (subst (λ bs. BreaksAt bs c.in-Err-Form.field-0-0) (c.deref.ensures.value ∙ c.in_ok-text.ensures)
    (rw c.in-Err-Form.field-0-is at c.in-Err-Form.ensures.refused))
