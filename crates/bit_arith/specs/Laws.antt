-- What sums, differences and products of words mean: at any width, and at 32 bits as an `int`.
use Rattle.std.specs.Prelude.{◌≡◌, ℕ, ◌<◌, ◌+◌, ◌-◌, ◌*◌, ◌^◌, ◌%◌, List, ℤ, length}
use Rattle.std.specs.Int.{w32, cast_signed}
use Rattle.std.specs.List.{All}
use Rattle.int_ops.specs.Arith.{plus, minus, times}
use Rattle.cnf_core.specs.Clauses.{Formula, Valuation}
use Rattle.bit_gates.specs.Laws.{IsModel, IsOf}
use Rattle.bit_words.specs.Words.{Walked}
use Rattle.bit_words.specs.Laws.{value, IsWord}
use Rattle.bit_arith.specs.Sums.{plus_word, minus_word, times_word}

-- the `int` of a word's 32 bits
abbrev pub int_value : Valuation → List ℤ → ℤ
int_value w ls = cast_signed w32 (value w ls)

-- a word whose number is `meaning`
pub record IsNumber (f : Formula) (xs : List ℤ) (m : Walked Formula)
    (meaning : Valuation → ℕ) : Type 0 where
  pub word : IsWord f m.state xs m.word
  pub number : (w : Valuation) → IsModel w m.state → value w m.word ≡ meaning w

-- two operands: words of equal length over a formula's literals
pub record AreOperands (f : Formula) (xs ys : List ℤ) : Type 0 where
  pub one : 0 < f.vars
  pub first : All (IsOf f.vars) xs
  pub second : All (IsOf f.vars) ys
  pub lengths : length ys ≡ length xs

pub record ArithMean : Type 0 where
  pub sum : (f : Formula) (xs ys : List ℤ) → AreOperands f xs ys
      → IsNumber f xs (plus_word f xs ys) (λ w. (value w xs + value w ys) % 2 ^ length xs)
  pub difference : (f : Formula) (xs ys : List ℤ) → AreOperands f xs ys
      → IsNumber f xs (minus_word f xs ys)
      (λ w. (value w xs + (2 ^ length xs - value w ys)) % 2 ^ length xs)
  pub product : (f : Formula) (xs ys : List ℤ) → AreOperands f xs ys
      → IsNumber f xs (times_word f xs ys) (λ w. (value w xs * value w ys) % 2 ^ length xs)
  -- at 32 bits
  pub plus : (f : Formula) (xs ys : List ℤ) → AreOperands f xs ys → length xs ≡ 32
      → (w : Valuation) → IsModel w (plus_word f xs ys).state
      → int_value w (plus_word f xs ys).word ≡ plus (int_value w xs) (int_value w ys)
  pub minus : (f : Formula) (xs ys : List ℤ) → AreOperands f xs ys → length xs ≡ 32
      → (w : Valuation) → IsModel w (minus_word f xs ys).state
      → int_value w (minus_word f xs ys).word ≡ minus (int_value w xs) (int_value w ys)
  pub times : (f : Formula) (xs ys : List ℤ) → AreOperands f xs ys → length xs ≡ 32
      → (w : Valuation) → IsModel w (times_word f xs ys).state
      → int_value w (times_word f xs ys).word ≡ times (int_value w xs) (int_value w ys)
