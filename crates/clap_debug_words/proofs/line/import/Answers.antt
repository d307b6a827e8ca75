use Rattle.std.proofs.Common.{ap}
use Rattle.std.proofs.lemmas.Result.{IfOk-weaker}
use Rattle.clap.specs.Words.{App}
use Rattle.clap_debug_words.proofs.line.import.Goals as goal

pub returns : goal.returns
returns c =
    let answered = c.with-command.ensures _ _ c.three_files.ensures c.positional.ensures.rule in
    IfOk-weaker c.with.result _ _ (λ _ h. ap (λ (a : App). a.top) h) (c.with.ensures _ _ answered c.option.ensures.rule)
