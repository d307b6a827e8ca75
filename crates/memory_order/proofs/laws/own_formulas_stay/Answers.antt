use Rattle.memory_order.proofs.Stay.{needs_later, formula_later}
use Rattle.memory_order.proofs.laws.own_formulas_stay.Goals as goal

pub returns-clause-needs : goal.returns-clause-needs
returns-clause-needs c buffered bound paths symbolic nodes later have grows = needs_later symbolic nodes have later grows buffered bound paths

pub returns-clause-formula : goal.returns-clause-formula
returns-clause-formula c buffered bound paths symbolic nodes later have grows = formula_later symbolic nodes have later grows buffered bound paths
