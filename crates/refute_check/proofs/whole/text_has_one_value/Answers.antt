use Rattle.refute_check.proofs.Wholes.{text-has-one-value}
use Rattle.refute_check.proofs.whole.text_has_one_value.Goals as goal

pub returns : goal.returns
returns c = text-has-one-value
