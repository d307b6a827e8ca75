use Rattle.std.proofs.Common.{◌≡◌, ◌∙◌, List, IfOk, true, subst}
use Rattle.std.specs.Prelude.{◌↔◌}
use Rattle.tc_lexer.specs.declared.token.Token.{Token}
use Rattle.tc_tree.specs.Grammar.{Begins}
use Rattle.tc_tree.specs.Words.{words_of}
use Rattle.next_tokens.proofs.stuck.goes_on_with.Goals as goal

pub returns : goal.returns
returns c =
    subst (λ (ts : List Token). IfOk c.begins_program.result (λ begins. (begins ≡ true) ↔ Begins 4 (words_of 4 c.args.text.now ts)))
    (c.as_slice.ensures.value ∙ c.in_ok-tokens.ensures) c.begins_program.ensures
