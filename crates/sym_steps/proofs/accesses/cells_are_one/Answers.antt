use Rattle.sym_steps.proofs.of_accesses.Reached.{same_cells}
use Rattle.sym_steps.proofs.accesses.cells_are_one.Goals as goal

pub returns : goal.returns
returns g c = λ setting nodes w h t u a b. same_cells setting nodes w h t u a b
