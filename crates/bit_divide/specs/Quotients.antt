-- A restoring divider.
use Rattle.std.specs.Prelude.{true, List, [], ◌∷◌, ℤ, length}
use Rattle.cnf_core.specs.Clauses.{Formula}
use Rattle.bit_gates.specs.Folded.{Made, constant}
use Rattle.bit_words.specs.Words.{Walked, word_sum, chosen_words, inverted_word}
use Rattle.bit_shift.specs.bit_arith.Sums.{zeros}
use Rattle.bit_shift.specs.Shifts.{shifted_in}

-- the result of a division: the formula, the remainder and the quotient
pub record Divided : Type 0 where
  pub formula : Formula
  pub remainder : List ℤ
  pub quotient : List ℤ

-- one step: shifts in a bit of the dividend, and subtracts the divisor (given inverted) if it fits
abbrev pub divided_place : Formula → List ℤ → ℤ → List ℤ → Walked Made
divided_place f rest bit opposite =
    let next : List ℤ = shifted_in bit rest in
    let less : Walked Made = word_sum f next opposite (constant true) in
    let kept : Walked Formula = chosen_words less.state.literal less.state.formula less.word next in
    record {
      state = record
          { formula = kept.state; literal = less.state.literal };
      word = kept.word;
    }

-- the steps for all bits of the dividend, from the highest down
abbrev pub divided : Formula → List ℤ → List ℤ → List ℤ → Divided
divided f rest opposite [] = record { formula = f; remainder = rest; quotient = [] }
divided f rest opposite (x ∷ xs) =
    let high : Divided = divided f rest opposite xs in
    let here : Walked Made = divided_place high.formula high.remainder x opposite in
    record {
      formula = here.state.formula;
      remainder = here.word;
      quotient = here.state.literal
          ∷ high.quotient;
    }

-- the division of a word by another
abbrev pub division : Formula → List ℤ → List ℤ → Divided
division f xs ds = divided f (zeros (length ds)) (inverted_word ds) xs
