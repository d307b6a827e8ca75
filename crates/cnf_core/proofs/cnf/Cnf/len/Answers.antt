use Rattle.std.proofs.Common.{arith, ap, length}
use Rattle.cnf_core.specs.Clauses.{Formula}
use Rattle.cnf_core.proofs.Pieces.{length-pieces, clauses_of_laid}
use Rattle.cnf_core.proofs.cnf.Cnf.len.Goals as goal

pub returns-clause-len : goal.returns-clause-len
returns-clause-len c = grind (arith, length-pieces, c.self.view_is, ap (λ (f : Formula). length f.clauses) c.self.view_is)

pub returns-clause-clauses : goal.returns-clause-clauses
returns-clause-clauses c = clauses_of_laid c.self.inside _ c.self.view_is c.self.invariant
