-- Sums, differences and products of words.
use Rattle.std.specs.Prelude.{ℕ, true, false, List, [], ◌∷◌, ◌++◌, ℤ, length, take, drop, replicate}
use Rattle.cnf_core.specs.Clauses.{Formula}
use Rattle.cnf_core.specs.declared.gates.Gate.TheVariants.{And}
use Rattle.bit_gates.specs.Folded.{Made, constant}
use Rattle.bit_words.specs.Words.{Walked, gated_words, word_sum, inverted_word}

-- a sum without its carry out
abbrev pub without_carry : Walked Made → Walked Formula
without_carry m = record { state = m.state.formula; word = m.word }

-- the sum of two words
abbrev pub plus_word : Formula → List ℤ → List ℤ → Walked Formula
plus_word f xs ys = without_carry (word_sum f xs ys (constant false))

-- the difference of two words: the first plus the second's complement plus 1
abbrev pub minus_word : Formula → List ℤ → List ℤ → Walked Formula
minus_word f xs ys = without_carry (word_sum f xs (inverted_word ys) (constant true))

-- the word 0 of `n` bits
abbrev pub zeros : ℕ → List ℤ
zeros n = replicate n (constant false)

-- a word plus one row of a product: the factor, cut to the word's length, if `bit` is true
abbrev pub with_row : Formula → List ℤ → List ℤ → ℤ → Walked Formula
with_row f word xs bit =
    let row : Walked Formula = gated_words And f (take (length word) xs)
    (replicate (length word) bit) in
    plus_word row.state word row.word

-- a word plus a product, row by row, each row one place above the one before it
abbrev pub with_product : Formula → List ℤ → List ℤ → List ℤ → Walked Formula
with_product f word xs [] = record { state = f; word = word }
with_product f word xs (b ∷ bs) =
    let row : Walked Formula = with_row f word xs b in
    let rest : Walked Formula = with_product row.state (drop 1 row.word) xs bs in
    record { state = rest.state; word = take 1 row.word ++ rest.word }

-- the product of two words
abbrev pub times_word : Formula → List ℤ → List ℤ → Walked Formula
times_word f xs ys = with_product f (zeros (length xs)) xs ys
