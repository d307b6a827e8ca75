use Rattle.refute_check.proofs.Wholes.{text-is-read}
use Rattle.refute_check.proofs.whole.text_is_read.Goals as goal

pub returns : goal.returns
returns c = text-is-read
