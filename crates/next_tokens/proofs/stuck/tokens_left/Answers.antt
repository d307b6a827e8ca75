use Rattle.std.proofs.Common.{◌∙◌, List, IfOk, subst}
use Rattle.tc_tree.specs.declared.word.Word.{Word}
use Rattle.next_tokens.specs.helpers.Searched.{IsLeft}
use Rattle.next_tokens.proofs.stuck.tokens_left.Goals as goal

pub returns : goal.returns
returns c =
    subst (λ (ws : List Word). IfOk c.words_left.result (IsLeft ws)) (c.as_slice.ensures.value ∙ c.in_ok-words.ensures) c.words_left.ensures
