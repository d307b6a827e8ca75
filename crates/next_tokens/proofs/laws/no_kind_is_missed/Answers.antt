use Rattle.next_tokens.proofs.Missed.{none_missed}
use Rattle.next_tokens.proofs.laws.no_kind_is_missed.Goals as goal

pub returns : goal.returns
returns c = none_missed
