-- Circuits over words: lists of literals, the lowest bit first.
use Rattle.std.specs.Prelude.{ℕ, ◌≤◌, List, [], ◌∷◌, ℤ, neg_ℤ, map}
use Rattle.std.specs.List.{All}
use Rattle.cnf_core.specs.Clauses.{var_of, Formula}
use Rattle.cnf_core.specs.declared.gates.Gate.{Gate}
use Rattle.bit_gates.specs.Folded.{Made, kept, conjunction, disjunction, differing, folded_gate, conditional}

-- the variable of each literal is at most `n`
abbrev pub AreWithin : ℕ → List ℤ → Type 0
AreWithin n ls = All (λ l. var_of l ≤ n) ls

-- the result at one place of a word: the state for the next place, and a literal
pub record Placed (S : Type 0) : Type 0 where
  pub state : S
  pub literal : ℤ

-- the result at all places: the last state, and a word
pub record Walked (S : Type 0) : Type 0 where
  pub state : S
  pub word : List ℤ

-- a circuit that walks two words of equal length, from the lowest place up
abbrev pub along : {S : Type 0} → (S → ℤ → ℤ → Placed S) → S → List ℤ → List ℤ → Walked S
along step s [] ys = record { state = s; word = [] }
along step s (a ∷ xs) [] = record { state = s; word = [] }
along step s (a ∷ xs) (b ∷ ys) =
    let here : Placed _ = step s a b in
    let rest : Walked _ = along step here.state xs ys in
    record { state = rest.state; word = here.literal ∷ rest.word }

-- the result of a gate at one place
abbrev pub made_place : Made → Placed Formula
made_place m = record { state = m.formula; literal = m.literal }

-- two words combined by a gate at each place
abbrev pub gated_words : Gate → Formula → List ℤ → List ℤ → Walked Formula
gated_words g f xs ys = along (λ h a b. made_place (folded_gate g h a b)) f xs ys

-- the first word if the condition is true, else the second
abbrev pub chosen_words : ℤ → Formula → List ℤ → List ℤ → Walked Formula
chosen_words c f xs ys = along (λ h a b. made_place (conditional h c a b)) f xs ys

-- one place of a ripple-carry adder; the state is the carry with its formula
abbrev pub added_place : Made → ℤ → ℤ → Placed Made
added_place carry a b =
    let half : Made = differing carry.formula a b in
    let sum : Made = differing half.formula half.literal carry.literal in
    let two : Made = conjunction sum.formula a b in
    let one : Made = conjunction two.formula half.literal carry.literal in
    record { state = disjunction one.formula two.literal one.literal; literal = sum.literal }

-- the sum of two words and a carry in, with the carry out of the top place
abbrev pub word_sum : Formula → List ℤ → List ℤ → ℤ → Walked Made
word_sum f xs ys carry = along added_place (kept f carry) xs ys

-- each literal negated
abbrev pub inverted_word : List ℤ → List ℤ
inverted_word ls = map neg_ℤ ls

-- whether the first number is smaller up to this place, given the answer `low` for the places below
abbrev pub compared_place : Made → ℤ → ℤ → Made
compared_place low a b =
    let above : Made = conjunction low.formula (neg_ℤ a) b in
    let not_below : Made = disjunction above.formula (neg_ℤ a) b in
    let kept : Made = conjunction not_below.formula low.literal not_below.literal in
    disjunction kept.formula above.literal kept.literal

-- whether the first of two words of equal length is smaller; `low` if they are equal
abbrev pub less_literal : Made → List ℤ → List ℤ → Made
less_literal low [] ys = low
less_literal low (a ∷ xs) [] = low
less_literal low (a ∷ xs) (b ∷ ys) = less_literal (compared_place low a b) xs ys

-- whether `known` or some literal of a list is true
abbrev pub any_of : Made → List ℤ → Made
any_of known [] = known
any_of known (l ∷ ls) = any_of (disjunction known.formula known.literal l) ls
