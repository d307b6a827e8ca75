use Rattle.order_formula.proofs.Asked.{formula_asked, grows_formula}
use Rattle.order_formula.proofs.laws.formulas_are_asked.Goals as goal

pub returns-clause-grows : goal.returns-clause-grows
returns-clause-grows c = grows_formula

pub returns-clause-asked : goal.returns-clause-asked
returns-clause-asked c = formula_asked
