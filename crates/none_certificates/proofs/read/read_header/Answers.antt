use Rattle.std.proofs.Common.{◌∙◌, sym, arith, None, Some}
use Rattle.std.proofs.lemmas.Grind.{common_steps}
use Rattle.none_certificates.proofs.Headers.{no-header}
use Rattle.none_certificates.proofs.read.read_header.Goals as goal

pub returns-in_default : goal.returns-in_default
returns-in_default c = no-header c.args.bytes.now None (sym c.header_guess.ensures.header ∙ c.in_default.is) tt

pub returns : goal.returns
returns c = no-header c.args.bytes.now (Some c.in-Some.header) (sym c.header_guess.ensures.header ∙ c.in-Some.is) (λ t. grind (arith, common_steps))
