use Rattle.sym_events.proofs.Whole.{is_executed}
use Rattle.sym_events.proofs.executed_paths.Goals as goal

pub returns : goal.returns
returns c code paths nodes are = is_executed code paths nodes are
