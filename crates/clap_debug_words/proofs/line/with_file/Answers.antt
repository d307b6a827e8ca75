use Rattle.std.proofs.Common.{ap}
use Rattle.std.proofs.lemmas.Result.{IfOk-weaker}
use Rattle.clap.specs.Words.{App}
use Rattle.clap_debug_words.proofs.line.with_file.Goals as goal

pub returns : goal.returns
returns c = IfOk-weaker c.three_files.result _ _ (λ _ h. ap (λ (a : App). a.top) h) c.three_files.ensures
