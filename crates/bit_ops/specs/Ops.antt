-- The circuits of operators.
use Rattle.std.specs.Prelude.{true, false, List, ◌∷◌, ℤ, length, take, drop, replicate}
use Rattle.int_ops.specs.declared.arith.UnOp.{UnOp}
use Rattle.int_ops.specs.declared.arith.UnOp.TheVariants as un
use Rattle.int_ops.specs.declared.arith.BinOp.{BinOp}
use Rattle.int_ops.specs.declared.arith.BinOp.TheVariants as bin
use Rattle.cnf_core.specs.Clauses.{Formula}
use Rattle.cnf_core.specs.declared.gates.Gate.TheVariants.{And, Or, Xor}
use Rattle.bit_gates.specs.Folded.{Made, constant, kept, opposite}
use Rattle.bit_words.specs.Words.{Walked, gated_words, any_of, inverted_word}
use Rattle.bit_arith.specs.Sums.{plus_word, minus_word, times_word, zeros}
use Rattle.bit_shift.specs.Shifts.{top, shifted}
use Rattle.bit_shift.specs.declared.Direction.TheVariants.{Up, Down}
use Rattle.bit_signed.specs.Signed.{quotient_word, remainder_word, compared_signed}

-- whether some literal of a word is true
abbrev pub some_of : Formula → List ℤ → Made
some_of f xs = any_of (kept f (constant false)) xs

-- whether two words differ at some place
abbrev pub differ : Formula → List ℤ → List ℤ → Made
differ f xs ys =
    let apart : Walked Formula = gated_words Xor f xs ys in some_of apart.state apart.word

-- the word 1 if a literal is true, else 0
abbrev pub truth_word : Made → Walked Formula
truth_word m = record { state = m.formula; word = m.literal ∷ zeros 31 }

-- a word if a literal is true, else 0
abbrev pub kept_where : List ℤ → Made → Walked Formula
kept_where xs m = gated_words And m.formula xs (replicate (length xs) m.literal)

-- a word, or 0 if the divisor is 0
abbrev pub where_some : Walked Formula → List ℤ → Walked Formula
where_some m ys = kept_where m.word (some_of m.state ys)

-- a shifted word, or 0 if the distance has a bit set above the lowest five
abbrev pub where_near : Walked Formula → List ℤ → Walked Formula
where_near m ys = kept_where m.word (opposite (some_of m.state (drop 5 ys)))

-- the circuit of a unary operator
abbrev pub unary_word : UnOp → Formula → List ℤ → Walked Formula
unary_word un.Neg f xs = minus_word f (zeros 32) xs
unary_word un.Not f xs = truth_word (opposite (some_of f xs))
unary_word un.Inv f xs = record { state = f; word = inverted_word xs }

-- the circuit of a binary operator
abbrev pub binary_word : BinOp → Formula → List ℤ → List ℤ → Walked Formula
binary_word bin.Add f xs ys = plus_word f xs ys
binary_word bin.Sub f xs ys = minus_word f xs ys
binary_word bin.Mul f xs ys = times_word f xs ys
binary_word bin.And f xs ys = gated_words And f xs ys
binary_word bin.Or f xs ys = gated_words Or f xs ys
binary_word bin.Xor f xs ys = gated_words Xor f xs ys
binary_word bin.Eq f xs ys = truth_word (opposite (differ f xs ys))
binary_word bin.Ne f xs ys = truth_word (differ f xs ys)
binary_word bin.Lt f xs ys = truth_word (compared_signed f (constant false) xs ys)
binary_word bin.Le f xs ys = truth_word (compared_signed f (constant true) xs ys)
binary_word bin.Gt f xs ys = truth_word (compared_signed f (constant false) ys xs)
binary_word bin.Ge f xs ys = truth_word (compared_signed f (constant true) ys xs)
binary_word bin.Div f xs ys = where_some (quotient_word f xs ys) ys
binary_word bin.Rem f xs ys = where_some (remainder_word f xs ys) ys
binary_word bin.Shl f xs ys = where_near (shifted Up (constant false) 1 f xs (take 5 ys)) ys
binary_word bin.Shr f xs ys = where_near (shifted Down (top xs) 1 f xs (take 5 ys)) ys
