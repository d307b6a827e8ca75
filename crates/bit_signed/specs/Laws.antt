-- What quotients, remainders and comparisons of signed words mean.
use Rattle.std.specs.Prelude.{◌≡◌, ◌<◌, ◌-◌, ◌%◌, ◌^◌, if◌then◌else◌, int_lt, int_le, List, ℤ, length}
use Rattle.std.specs.List.{All}
use Rattle.bit_divide.specs.int_ops.Arith.{quotient, remainder}
use Rattle.cnf_core.specs.Clauses.{Formula, Valuation, literal_true}
use Rattle.bit_gates.specs.Laws.{IsModel, IsOf, IsBit}
use Rattle.bit_words.specs.Words.{Walked}
use Rattle.bit_words.specs.Laws.{value, IsWord}
use Rattle.bit_divide.specs.bit_arith.Laws.{int_value, IsNumber, AreOperands}
use Rattle.bit_signed.specs.Signed.{negated_where, quotient_word, remainder_word, compared_signed}

pub record SignedMean : Type 0 where
  pub negate : (f : Formula) (xs : List ℤ) (sign : ℤ) → All (IsOf f.vars) xs → IsOf f.vars sign
      → IsNumber f xs (negated_where f xs sign)
      (λ w. if literal_true w sign then (2 ^ length xs - value w xs) % 2 ^ length xs
      else value w xs)
  -- at 32 bits
  pub divided : (f : Formula) (xs ys : List ℤ) → AreOperands f xs ys → length xs ≡ 32
      → IsWord f (quotient_word f xs ys).state xs (quotient_word f xs ys).word
  pub quotient : (f : Formula) (xs ys : List ℤ) → AreOperands f xs ys → length xs ≡ 32
      → (w : Valuation) → IsModel w (quotient_word f xs ys).state
      → 0 < value w ys
      → int_value w (quotient_word f xs ys).word ≡ quotient (int_value w xs) (int_value w ys)
  pub left_over : (f : Formula) (xs ys : List ℤ) → AreOperands f xs ys → length xs ≡ 32
      → IsWord f (remainder_word f xs ys).state xs (remainder_word f xs ys).word
  pub remainder : (f : Formula) (xs ys : List ℤ) → AreOperands f xs ys → length xs ≡ 32
      → (w : Valuation) → IsModel w (remainder_word f xs ys).state
      → 0 < value w ys
      → int_value w (remainder_word f xs ys).word ≡ remainder (int_value w xs) (int_value w ys)
  pub order : (f : Formula) (low : ℤ) (xs ys : List ℤ) → AreOperands f xs ys → IsOf f.vars low
      → length xs ≡ 32
      → IsBit f (compared_signed f low xs ys)
      (λ w. if literal_true w low then int_le (int_value w xs) (int_value w ys)
      else int_lt (int_value w xs) (int_value w ys))
