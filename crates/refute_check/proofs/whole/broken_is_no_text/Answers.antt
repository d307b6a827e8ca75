use Rattle.refute_check.proofs.Pieces.{broken-is-no-text}
use Rattle.refute_check.proofs.whole.broken_is_no_text.Goals as goal

pub returns : goal.returns
returns c = broken-is-no-text
