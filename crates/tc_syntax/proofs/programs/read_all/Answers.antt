use Rattle.std.proofs.Common.{[], ◌∙◌, rules}
use Rattle.tc_syntax.proofs.Chains.{too_many}
use Rattle.tc_syntax.proofs.programs.read_all.Goals as goal

pub returns-else-is_empty : goal.returns-else-is_empty
returns-else-is_empty c =
    c.in_ok-globals.ensures.moves [] ∙ c.in_ok-threads.ensures.0.moves [] ∙ c.in_ok-main.ensures.moves [] ∙ too_many c.in_ok-main.rest.now (search rules)
