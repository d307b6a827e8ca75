use Rattle.std.proofs.Common.{refl}
use Rattle.check_command.proofs.open_is_accepted.Goals as goal

pub returns : goal.returns
returns c = λ program log t head lines whole undecided. (t, record { head = head; lines = lines; text = record { whole = whole; text = refl } }, undecided)
