use Rattle.std.proofs.Common.{ap}
use Rattle.std.proofs.lemmas.Result.{IfOk-weaker}
use Rattle.clap.specs.Words.{App}
use Rattle.clap_debug_words.proofs.line.solving.Goals as goal

pub returns : goal.returns
returns c =
    let modelled = c.with-command.ensures _ _ c.three_files.ensures c.option.ensures.rule in
    let limited = c.with.ensures _ _ modelled c.option-2.ensures.rule in
    IfOk-weaker c.with-2.result _ _ (λ _ h. ap (λ (a : App). a.top) h) (c.with-2.ensures _ _ limited c.option-3.ensures.rule)
