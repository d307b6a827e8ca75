use Rattle.run_follows.proofs.of_deeds.Cells.{next_cell, step_cell, drain_cell}
use Rattle.run_follows.proofs.deeds.cells_are_within.Goals as goal

pub returns-clause-done : goal.returns-clause-done
returns-clause-done g c = step_cell

pub returns-clause-drained : goal.returns-clause-drained
returns-clause-drained g c = drain_cell

pub returns-clause-next : goal.returns-clause-next
returns-clause-next g c = next_cell
