use Rattle.std.proofs.Common.{◌≡◌, ◌∙◌, IfOk, ap, subst}
use Rattle.std.proofs.lemmas.Result.{IfOk-weaker}
use Rattle.clap.specs.Words.{App, app_of, with_subcommand}
use Rattle.clap_debug_words.proofs.line.add.Goals as goal

pub returns-in-Ok : goal.returns-in-Ok
returns-in-Ok c = λ app shape plain made shaped.
    let is = subst (λ r. IfOk r (λ m. app_of m ≡ app)) c.in-Ok.is made in
    IfOk-weaker c.with_command.result _ _ (λ _ h. h ∙ ap (λ (a : App). with_subcommand a shape) is) (c.with_command.ensures shape plain shaped)
