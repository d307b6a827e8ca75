use Rattle.std.proofs.Common.{arith, ap}
use Rattle.cnf_core.specs.Clauses.{Formula}
use Rattle.cnf_core.specs.helpers.Layout.{formula_of}
use Rattle.cnf_core.proofs.Pieces.{are_clauses-more}
use Rattle.cnf_core.proofs.cnf.Cnf.add_variable.Goals as goal

pub invariant_of-self : goal.invariant_of-self
invariant_of-self c =
    record {
      ends = c.self.invariant.ends;
      clauses = are_clauses-more c.self.inside.vars (formula_of c.self.inside).clauses c.self.invariant.clauses;
      few_vars = omega (arith, c.requires, ap (λ (f : Formula). f.vars) c.self.view_is);
      few_clauses = c.self.invariant.few_clauses;
    }
