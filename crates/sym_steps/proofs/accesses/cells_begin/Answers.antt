use Rattle.sym_steps.proofs.of_accesses.Reached.{cell_begins}
use Rattle.sym_steps.proofs.accesses.cells_begin.Goals as goal

pub returns : goal.returns
returns g c = λ setting nodes loads h t a. cell_begins setting nodes loads h t a
