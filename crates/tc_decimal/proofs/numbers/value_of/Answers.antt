use Rattle.std.proofs.Common.{sym, ◌∙◌}
use Rattle.tc_decimal.proofs.Decimals.{digits_have_text, text_is, parsed_value}
use Rattle.tc_decimal.proofs.numbers.value_of.Goals as goal

pub returns-in_err-ok : goal.returns-in_err-ok
returns-in_err-ok c = absurd (digits_have_text c.from_utf8.result c.args.digits.now _ c.requires c.from_utf8.ensures.cases (sym c.ok.ensures.value
    ∙ c.in_err-ok.was))

pub returns : goal.returns
returns c =
    let text = text_is c.from_utf8.result c.args.digits.now _ c.in_ok-ok.field-0 c.from_utf8.ensures.cases (sym c.ok.ensures.value ∙ c.in_ok-ok.was) in
    rw c.ok-2.ensures.value (parsed_value c.parse.result c.in_ok-ok.field-0.now c.args.digits.now text c.requires c.parse.ensures.value.0)
