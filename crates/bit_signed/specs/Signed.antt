-- Words as signed numbers.
use Rattle.std.specs.Prelude.{◌-◌, List, [], ◌∷◌, ◌++◌, ℤ, neg_ℤ, length, take, replicate}
use Rattle.cnf_core.specs.Clauses.{Formula}
use Rattle.cnf_core.specs.declared.gates.Gate.TheVariants.{Xor}
use Rattle.bit_gates.specs.Folded.{Made, kept, differing}
use Rattle.bit_words.specs.Words.{Walked, gated_words, word_sum, less_literal}
use Rattle.bit_divide.specs.bit_arith.Sums.{without_carry, zeros}
use Rattle.bit_divide.specs.bit_shift.Shifts.{top}
use Rattle.bit_divide.specs.Quotients.{Divided, division}

-- a word, negated (inverted, plus 1) if the literal `sign` is true
abbrev pub negated_where : Formula → List ℤ → ℤ → Walked Formula
negated_where f xs sign =
    let flipped : Walked Formula = gated_words Xor f xs (replicate (length xs) sign) in
    without_carry (word_sum flipped.state flipped.word (zeros (length xs)) sign)

-- the division of one word's magnitude by another's
abbrev pub magnitudes_divided : Formula → List ℤ → List ℤ → Divided
magnitudes_divided f xs ys =
    let above : Walked Formula = negated_where f xs (top xs) in
    let below : Walked Formula = negated_where above.state ys (top ys) in
    division below.state above.word below.word

-- the quotient of the magnitudes, negated if the signs differ
abbrev pub quotient_word : Formula → List ℤ → List ℤ → Walked Formula
quotient_word f xs ys =
    let m : Divided = magnitudes_divided f xs ys in
    let sign : Made = differing m.formula (top xs) (top ys) in
    negated_where sign.formula m.quotient sign.literal

-- the remainder of the magnitudes, with the dividend's sign
abbrev pub remainder_word : Formula → List ℤ → List ℤ → Walked Formula
remainder_word f xs ys =
    let m : Divided = magnitudes_divided f xs ys in negated_where m.formula m.remainder (top xs)

-- a word with its sign bit inverted
abbrev pub with_sign_inverted : List ℤ → List ℤ
with_sign_inverted ls = take (length ls - 1) ls ++ neg_ℤ (top ls) ∷ []

-- whether the first signed number is smaller; `low` if they are equal
abbrev pub compared_signed : Formula → ℤ → List ℤ → List ℤ → Made
compared_signed f low xs ys =
    less_literal (kept f low) (with_sign_inverted xs) (with_sign_inverted ys)
