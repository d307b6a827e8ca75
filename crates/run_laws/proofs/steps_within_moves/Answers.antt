use Rattle.run_laws.proofs.Counts.{counts_of_run}
use Rattle.run_laws.proofs.steps_within_moves.Goals as goal

pub returns : goal.returns
returns g c = λ ops code moves s n t leads there. (counts_of_run ops code moves s leads n t there).steps
