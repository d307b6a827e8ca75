use Rattle.read_write.proofs.Stays.{formula_stays}
use Rattle.read_write.proofs.Terms.{formula_is_of, needs_there}
use Rattle.read_write.proofs.laws.reads_stay.Goals as goal

pub returns-clause-made : goal.returns-clause-made
returns-clause-made c = needs_there

pub returns-clause-terms : goal.returns-clause-terms
returns-clause-terms c = formula_is_of

pub returns-clause-same : goal.returns-clause-same
returns-clause-same c code paths symbolic nodes later have needs g = formula_stays code symbolic nodes later g have paths needs
