use Rattle.sym_exec.proofs.Tells.{tells}
use Rattle.sym_exec.proofs.laws.executions_tell.Goals as goal

pub returns : goal.returns
returns c = tells
