-- Formulas extended by definitions of new variables.
use Rattle.std.specs.Prelude.{◌<◌, ◌≤◌}
use Rattle.cnf_core.specs.Clauses.{Formula, Valuation}
use Rattle.cnf_core.specs.Gates.{Agree, IsOver}
use Rattle.bit_gates.specs.Laws.{IsGrown, IsModel}

-- `g` extends `f` and says the same about the variables of `f`
pub record IsExtended (f g : Formula) : Type 0 where
  pub more : f.vars ≤ g.vars
  pub over : IsOver f → IsOver g
  -- each model of the new formula is a model of the old one
  pub before : (w : Valuation) → IsModel w g → IsModel w f
  -- each model of the old formula extends to a model of the new one
  pub extends : (v : Valuation) → IsOver f → IsModel v f
      → (w : Valuation) × IsModel w g × Agree f.vars v w

-- a block of gates extends a formula
abbrev pub GatesExtend : Type 0
GatesExtend = (f g : Formula) → 0 < f.vars → IsGrown f g → IsExtended f g
