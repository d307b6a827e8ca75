use Rattle.std.proofs.Common.{◌∙◌, sym}
use Rattle.why_command.proofs.PlainTexts.{head_breaks, is_refutation}
use Rattle.why_command.proofs.plain.read_plain.Goals as goal

pub returns-then-is_some-clause-refused : goal.returns-then-is_some-clause-refused
returns-then-is_some-clause-refused c =
    let whole = c.in_ok-head.ensures.found in
    head_breaks c.args.bytes.now c.in_ok-head.head c.in_ok-head.derivation whole.0 whole.1 (sym c.is_some.ensures ∙ c.if-is_some.true)

pub returns-clause-found : goal.returns-clause-found
returns-clause-found c =
    let whole = c.in_ok-head.ensures.found in
    is_refutation c.args.bytes.now c.in_ok-head.head c.in_ok-head.derivation whole.0 whole.1 (sym c.is_some.ensures ∙ c.if-is_some.false)
