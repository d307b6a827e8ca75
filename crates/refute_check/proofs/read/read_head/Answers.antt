use Rattle.std.proofs.Common.{◌∙◌, sym, arith, None, Some}
use Rattle.std.proofs.lemmas.Grind.{common_steps}
use Rattle.refute_check.proofs.Heads.{no-head}
use Rattle.refute_check.proofs.read.read_head.Goals as goal

pub returns-in_default : goal.returns-in_default
returns-in_default c = no-head c.args.bytes.now None (sym c.head_guess.ensures.head ∙ c.in_default.is) tt

pub returns : goal.returns
returns c = no-head c.args.bytes.now (Some c.in-Some.head) (sym c.head_guess.ensures.head ∙ c.in-Some.is) (λ t. grind (arith, common_steps))
