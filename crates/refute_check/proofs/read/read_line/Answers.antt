use Rattle.std.proofs.Common.{◌≡◌, ◌∙◌, sym, arith, None, Some}
use Rattle.std.proofs.lemmas.Grind.{common_steps}
use Rattle.refute_check.specs.Texts.{line_text}
use Rattle.refute_check.proofs.Guesses.{no-line, line_guess-readable}
use Rattle.refute_check.proofs.read.read_line.Goals as goal

pub returns-in_default : goal.returns-in_default
returns-in_default c = no-line c.args.bytes.now None (sym c.in_ok-line.ensures ∙ c.in_default.is) tt

pub returns-then-branch : goal.returns-then-branch
returns-then-branch c =
    let text : line_text c.in-Some.line ≡ c.args.bytes.now = grind (arith, common_steps) in
    (text, line_guess-readable c.args.bytes.now c.in-Some.line (sym c.in_ok-line.ensures ∙ c.in-Some.is))

pub returns : goal.returns
returns c = no-line c.args.bytes.now (Some c.in-Some.line) (sym c.in_ok-line.ensures ∙ c.in-Some.is) (λ t. grind (arith, common_steps))
