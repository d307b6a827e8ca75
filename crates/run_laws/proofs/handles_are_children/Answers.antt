use Rattle.run_laws.proofs.Handles.{handles_are_children}
use Rattle.run_laws.proofs.handles_are_children.Goals as goal

pub returns : goal.returns
returns g c = handles_are_children
