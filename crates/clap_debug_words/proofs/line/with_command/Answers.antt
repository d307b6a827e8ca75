use Rattle.std.proofs.Common.{◌≡◌, ◌∙◌, IfOk, ap, subst}
use Rattle.std.proofs.lemmas.Result.{IfOk-weaker}
use Rattle.clap.specs.Words.{Shape, app_of, shape_of, with_subcommand}
use Rattle.clap.proofs.SimpleLemmas.{plain_fields}
use Rattle.clap_debug_words.proofs.line.with_command.Goals as goal

pub returns-in-Ok : goal.returns-in-Ok
returns-in-Ok c = λ shape plain made.
    let is = subst (λ r. IfOk r (λ s. shape_of s ≡ shape)) c.in-Ok.is made in
    IfOk-weaker c.subcommand.result _ _
    (λ _ h. h.shape (plain_fields _ (ap (λ (s : Shape). s.is_plain) is ∙ plain)).globals ∙ ap (with_subcommand (app_of c.args.command)) is)
    c.subcommand.ensures
