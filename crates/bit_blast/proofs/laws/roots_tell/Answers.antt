use Rattle.bit_blast.proofs.Posed.{roots-tell}
use Rattle.bit_blast.proofs.laws.roots_tell.Goals as goal

pub returns : goal.returns
returns c = roots-tell
