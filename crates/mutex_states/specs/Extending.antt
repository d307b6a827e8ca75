-- Formulas with more variables and clauses, which hold for some values of the new variables.
use Rattle.std.specs.Prelude.{ℕ, suc, ◌-◌, ◌≤◌, Bool, if◌then◌else◌, nat_le, IsTrue}
use Rattle.cnf_core.specs.Clauses.{Formula, Valuation, satisfies}
use Rattle.cnf_core.specs.Gates.{Agree, IsOver}
use Rattle.bit_gates.specs.Laws.{IsModel}

-- `g` is `f` with more clauses, and each model of `f` with a property extends to one of `g` with
-- another
pub record Extends (Given : Valuation → Type 0) (f : Formula) (Then : Valuation → Type 0)
    (g : Formula) : Type 0 where
  pub more : f.vars ≤ g.vars
  pub over : IsOver f → IsOver g
  pub before : (w : Valuation) → IsTrue (satisfies w g.clauses) → IsTrue (satisfies w f.clauses)
  pub extends : (v : Valuation) → IsOver f → IsModel v f → Given v
      → (w : Valuation) × IsModel w g × Agree f.vars v w × Then w

-- a valuation with these values of the variables after the first `n`
abbrev pub valued : Valuation → ℕ → (ℕ → Bool) → Valuation
valued v n value = λ k. if nat_le k n then v k else value (k - suc n)
