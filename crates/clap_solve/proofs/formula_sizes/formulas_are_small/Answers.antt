use Rattle.clap_solve.proofs.formula_sizes.Whole.{has_small}
use Rattle.clap_solve.proofs.formula_sizes.formulas_are_small.Goals as goal

pub returns : goal.returns
returns c = λ buffered bound code log nodes is. has_small code log is buffered bound nodes
