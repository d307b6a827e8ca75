use Rattle.bit_shift.proofs.Meaning.{shifts-mean}
use Rattle.bit_shift.proofs.shifts_mean.Goals as goal

pub returns : goal.returns
returns c = shifts-mean
