use Rattle.memory_order.proofs.Within.{formula_in, formula_of_terms}
use Rattle.memory_order.proofs.laws.own_formulas_are_of_their_order.Goals as goal

pub returns-clause-events : goal.returns-clause-events
returns-clause-events c = formula_in

pub returns-clause-terms : goal.returns-clause-terms
returns-clause-terms c = formula_of_terms
