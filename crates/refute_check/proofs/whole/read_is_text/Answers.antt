use Rattle.refute_check.proofs.ReadTexts.{read-is-text}
use Rattle.refute_check.proofs.whole.read_is_text.Goals as goal

pub returns : goal.returns
returns c = read-is-text
