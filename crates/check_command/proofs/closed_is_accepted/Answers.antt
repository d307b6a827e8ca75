use Rattle.std.proofs.Common.{refl}
use Rattle.check_command.proofs.closed_is_accepted.Goals as goal

pub returns : goal.returns
returns c = λ program log t head lines whole closed.
    (t, record { head = head; lines = lines; text = record { whole = whole; text = refl } }, (closed, refl))
