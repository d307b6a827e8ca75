use Rattle.bit_gates.proofs.Meaning.{gates-mean}
use Rattle.bit_gates.proofs.gates_mean.Goals as goal

pub returns : goal.returns
returns c = gates-mean
