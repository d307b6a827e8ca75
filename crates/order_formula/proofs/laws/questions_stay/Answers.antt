use Rattle.order_formula.proofs.Asked.{formula_stays, pair_stays, choice_stays}
use Rattle.order_formula.proofs.laws.questions_stay.Goals as goal

pub returns-clause-formulas : goal.returns-clause-formulas
returns-clause-formulas c = formula_stays

pub returns-clause-pairs : goal.returns-clause-pairs
returns-clause-pairs c = pair_stays

pub returns-clause-choices : goal.returns-clause-choices
returns-clause-choices c = choice_stays
