-- What a division means.
use Rattle.std.specs.Prelude.{◌≡◌, ◌<◌, ◌≤◌, ◌+◌, ◌*◌, ◌^◌, List, ℤ, length}
use Rattle.std.specs.List.{All}
use Rattle.cnf_core.specs.Clauses.{Formula, Valuation}
use Rattle.bit_gates.specs.Laws.{IsGrown, IsModel, IsOf}
use Rattle.bit_words.specs.Laws.{value}
use Rattle.bit_divide.specs.Quotients.{Divided, division}

-- quotient and remainder, for a divisor above 0 and at most half of 2 to the power of its width
pub record IsDivision (f : Formula) (xs ds : List ℤ) (m : Divided) : Type 0 where
  pub grown : IsGrown f m.formula
  pub quotient : All (IsOf m.formula.vars) m.quotient
  pub quotient_length : length m.quotient ≡ length xs
  pub remainder : All (IsOf m.formula.vars) m.remainder
  pub remainder_length : length m.remainder ≡ length ds
  pub number : (w : Valuation) → IsModel w m.formula → 0 < value w ds
      → 2 * value w ds ≤ 2 ^ length ds
      → (value w xs ≡ value w m.quotient * value w ds + value w m.remainder)
      × (value w m.remainder < value w ds)

abbrev pub DivisionMeans : Type 0
DivisionMeans =
    (f : Formula) (xs ds : List ℤ) → 0 < f.vars → All (IsOf f.vars) xs → All (IsOf f.vars) ds
    → IsDivision f xs ds (division f xs ds)
