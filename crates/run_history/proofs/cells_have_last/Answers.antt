use Rattle.run_history.proofs.Last.{cells_have_last, cells_begin}
use Rattle.run_history.proofs.cells_have_last.Goals as goal

pub returns-clause-last : goal.returns-clause-last
returns-clause-last c = cells_have_last

pub returns-clause-begin : goal.returns-clause-begin
returns-clause-begin c = cells_begin
