use Rattle.std.proofs.Common.{◌≡◌, ◌∙◌, ap, ap₂, codes}
use Rattle.std.proofs.lemmas.Result.{IfOk-weaker}
use Rattle.clap.specs.Words.{App, app_of, new_app, with_rule}
use Rattle.clap_debug_words.specs.CommandLine as spec
use Rattle.clap_debug_words.proofs.line.workload.Goals as goal

pub returns : goal.returns
returns c =
    let counted = IfOk-weaker c.arg-command.result _ (λ m. app_of m ≡ with_rule (new_app (codes "workload")) (spec.positional (codes "workers")))
    (λ _ h. h.shape c.positional.ensures.local ∙ ap₂ with_rule c.new.ensures.app c.positional.ensures.rule) c.arg-command.ensures in
    IfOk-weaker c.with.result _ _ (λ _ h. ap (λ (a : App). a.top) h) (c.with.ensures _ _ counted c.positional-2.ensures.rule)
