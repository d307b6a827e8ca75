use Rattle.std.proofs.Common.{◌∙◌, sym}
use Rattle.refutation_input.proofs.incoming.verdict_by.Goals as goal

pub returns-in-Some : goal.returns-in-Some
returns-in-Some c = (c.in-Err.fault, sym c.verdict.ensures ∙ c.in-Err.is, sym c.line_of.ensures ∙ c.in-Some.is)
