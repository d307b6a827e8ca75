use Rattle.std.proofs.Common.{◌≡◌, ◌∙◌, ap₂, codes}
use Rattle.std.proofs.lemmas.Result.{IfOk-weaker}
use Rattle.clap.specs.Words.{app_of, new_app, with_rule}
use Rattle.clap_debug_words.specs.CommandLine as spec
use Rattle.clap_debug_words.proofs.line.two_files.Goals as goal

pub returns : goal.returns
returns c =
    let named = IfOk-weaker c.arg-command.result _ (λ m. app_of m ≡ with_rule (new_app c.args.name.now) (spec.positional (codes "program")))
    (λ _ h. h.shape c.positional.ensures.local ∙ ap₂ with_rule c.new.ensures.app c.positional.ensures.rule) c.arg-command.ensures in
    c.with.ensures _ _ named c.positional-2.ensures.rule
