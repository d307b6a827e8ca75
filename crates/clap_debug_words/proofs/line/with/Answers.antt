use Rattle.std.proofs.Common.{◌≡◌, ◌∙◌, IfOk, ap₂, subst}
use Rattle.std.proofs.lemmas.Result.{IfOk-weaker}
use Rattle.clap.specs.Words.{app_of, with_rule}
use Rattle.clap_debug_words.proofs.line.with.Goals as goal

pub returns-in-Ok : goal.returns-in-Ok
returns-in-Ok c = λ app rule made rule_is.
    let is = subst (λ r. IfOk r (λ m. app_of m ≡ app)) c.in-Ok.is made in
    IfOk-weaker c.arg.result _ _ (λ _ h. h.shape c.requires ∙ ap₂ with_rule is rule_is) c.arg.ensures
