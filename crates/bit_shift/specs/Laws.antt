-- What shifts mean.
use Rattle.std.specs.Prelude.{◌≡◌, ℕ, ◌≤◌, ◌*◌, ◌/◌, ◌%◌, ◌^◌, Bool, true, false, not, List, ℤ, pos, map, length}
use Rattle.std.specs.List.{All}
use Rattle.bit_arith.specs.int_ops.Arith.{shifted_left, shifted_right}
use Rattle.cnf_core.specs.Clauses.{Formula, Valuation, literal_true}
use Rattle.bit_gates.specs.Folded.{constant}
use Rattle.bit_gates.specs.Laws.{IsModel, IsOf}
use Rattle.bit_words.specs.Words.{Walked}
use Rattle.bit_words.specs.Laws.{values, number_of, value, IsWord}
use Rattle.bit_arith.specs.Laws.{int_value}
use Rattle.bit_shift.specs.declared.Direction.{Direction}
use Rattle.bit_shift.specs.declared.Direction.TheVariants.{Up, Down}
use Rattle.bit_shift.specs.Shifts.{top, shifted}

-- the number of the bits, or of their complements if the flag is true
abbrev pub number_from : Bool → List Bool → ℕ
number_from false ps = number_of ps
number_from true ps = number_of (map not ps)

-- the operands of a shift over a formula's literals: the bit that comes in, a word and a distance
pub record AreShifted (f : Formula) (bit : ℤ) (xs ds : List ℤ) : Type 0 where
  pub comes_in : IsOf f.vars bit
  pub word : All (IsOf f.vars) xs
  pub distance : All (IsOf f.vars) ds

pub record ShiftsMean : Type 0 where
  pub word : (to : Direction) (bit : ℤ) (f : Formula) (xs ds : List ℤ) → AreShifted f bit xs ds
      → IsWord f (shifted to bit 1 f xs ds).state xs (shifted to bit 1 f xs ds).word
  -- shifting up with 0 coming in multiplies by a power of 2
  pub up : (f : Formula) (xs ds : List ℤ) → AreShifted f (constant false) xs ds
      → (w : Valuation) → IsModel w (shifted Up (constant false) 1 f xs ds).state
      → value w (shifted Up (constant false) 1 f xs ds).word ≡
      (value w xs * 2 ^ value w ds) % 2 ^ length xs
  -- shifting down divides by a power of 2; if the bit that comes in is 1, complements are divided
  pub down : (bit : ℤ) (f : Formula) (xs ds : List ℤ) → AreShifted f bit xs ds → (w : Valuation)
      → IsModel w (shifted Down bit 1 f xs ds).state
      → number_from (literal_true w bit) (values w (shifted Down bit 1 f xs ds).word) ≡ number_from
      (literal_true w bit) (values w xs) / 2 ^ value w ds
  -- at 32 bits
  pub left : (f : Formula) (xs ds : List ℤ) → AreShifted f (constant false) xs ds → length xs ≡ 32
      → (w : Valuation) → IsModel w (shifted Up (constant false) 1 f xs ds).state → value w ds ≤ 31
      → int_value w (shifted Up (constant false) 1 f xs ds).word ≡ shifted_left (int_value w xs)
      (pos (value w ds))
  pub right : (f : Formula) (xs ds : List ℤ) → AreShifted f (top xs) xs ds → length xs ≡ 32
      → (w : Valuation) → IsModel w (shifted Down (top xs) 1 f xs ds).state → value w ds ≤ 31
      → int_value w (shifted Down (top xs) 1 f xs ds).word ≡ shifted_right (int_value w xs)
      (pos (value w ds))
