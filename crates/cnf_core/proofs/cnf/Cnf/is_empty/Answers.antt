use Rattle.std.proofs.Common.{arith, ap, length}
use Rattle.cnf_core.specs.Clauses.{Formula}
use Rattle.cnf_core.proofs.Pieces.{length-pieces}
use Rattle.cnf_core.proofs.cnf.Cnf.is_empty.Goals as goal

pub returns : goal.returns
returns c = grind (arith, length-pieces, c.self.view_is, ap (λ (f : Formula). length f.clauses) c.self.view_is)
