use Rattle.sym_steps.proofs.of_accesses.Found.{cell_found}
use Rattle.sym_steps.proofs.accesses.cells_are_found.Goals as goal

pub returns : goal.returns
returns c = cell_found
