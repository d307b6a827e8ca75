use Rattle.bit_gates.proofs.Extended.{gates-extend}
use Rattle.bit_gates.proofs.gates_extend.Goals as goal

pub returns : goal.returns
returns c = gates-extend
