use Rattle.order_cells.proofs.Told.{told, either, tested}
use Rattle.order_cells.proofs.laws.cells_are_told.Goals as goal

pub returns-clause-known : goal.returns-clause-known
returns-clause-known c = told

pub returns-clause-either : goal.returns-clause-either
returns-clause-either c = either

pub returns-clause-tested : goal.returns-clause-tested
returns-clause-tested c nodes w a b test are = tested nodes w a b test are
