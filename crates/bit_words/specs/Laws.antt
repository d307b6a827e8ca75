-- What the circuits over words mean.
use Rattle.std.specs.Prelude.{◌≡◌, ℕ, ◌+◌, ◌*◌, ◌^◌, Bool, true, false, ◌||◌, if◌then◌else◌, nat_lt, nat_le, List, [], ◌∷◌, ℤ, map, length}
use Rattle.std.specs.List.{All, list_any}
use Rattle.cnf_core.specs.Clauses.{Formula, Valuation, literal_true}
use Rattle.cnf_core.specs.Gates.{gate_value}
use Rattle.cnf_core.specs.declared.gates.Gate.{Gate}
use Rattle.bit_gates.specs.Folded.{Made}
use Rattle.bit_gates.specs.Laws.{IsGrown, IsModel, IsOf, IsBit}
use Rattle.bit_words.specs.Words.{Walked, gated_words, chosen_words, word_sum, inverted_word, less_literal, any_of}

-- the values of a word's literals
abbrev pub values : Valuation → List ℤ → List Bool
values w ls = map (literal_true w) ls

abbrev pub digit : Bool → ℕ
digit true = 1
digit false = 0

-- the number of a list of bits, the lowest first
abbrev pub number_of : List Bool → ℕ
number_of [] = 0
number_of (p ∷ ps) = digit p + 2 * number_of ps

-- the unsigned number of a word under a valuation
abbrev pub value : Valuation → List ℤ → ℕ
value w ls = number_of (values w ls)

-- a function applied to two words bit by bit
abbrev pub at_places : (Bool → Bool → Bool) → List Bool → List Bool → List Bool
at_places op [] qs = []
at_places op (p ∷ ps) [] = []
at_places op (p ∷ ps) (q ∷ qs) = op p q ∷ at_places op ps qs

-- a formula has grown by gates and has a word as long as another
pub record IsWord (f g : Formula) (xs out : List ℤ) : Type 0 where
  pub grown : IsGrown f g
  pub literals : All (IsOf g.vars) out
  pub same_length : length out ≡ length xs

-- a word whose bits are a function of the bits of two others, place by place
pub record IsPlaced (f : Formula) (xs ys : List ℤ) (m : Walked Formula)
    (op : Valuation → Bool → Bool → Bool) : Type 0 where
  pub word : IsWord f m.state xs m.word
  pub places : (w : Valuation) → IsModel w m.state
      → values w m.word ≡ at_places (op w) (values w xs) (values w ys)

-- a word and a carry out that are the sum of two words and a carry in
pub record IsSum (f : Formula) (xs ys : List ℤ) (m : Walked Made) (carry : ℤ) : Type 0 where
  pub word : IsWord f m.state.formula xs m.word
  pub out : IsOf m.state.formula.vars m.state.literal
  pub sum : (w : Valuation) → IsModel w m.state.formula
      → value w m.word + 2 ^ length xs * digit
      (literal_true w m.state.literal) ≡ value w xs + value w ys + digit (literal_true w carry)

pub record WordsMean : Type 0 where
  -- a gate applied at each place
  pub gate : (g : Gate) (f : Formula) (xs ys : List ℤ) → All (IsOf f.vars) xs
      → All (IsOf f.vars) ys → length ys ≡ length xs
      → IsPlaced f xs ys (gated_words g f xs ys) (λ _. gate_value g)
  -- a choice between two words
  pub choose : (c : ℤ) (f : Formula) (xs ys : List ℤ) → IsOf f.vars c → All (IsOf f.vars) xs
      → All (IsOf f.vars) ys
      → length ys ≡ length xs
      → IsPlaced f xs ys (chosen_words c f xs ys) (λ w p q. if literal_true w c then p else q)
  pub add : (f : Formula) (xs ys : List ℤ) (c : ℤ) → All (IsOf f.vars) xs → All (IsOf f.vars) ys
      → IsOf f.vars c
      → length ys ≡ length xs → IsSum f xs ys (word_sum f xs ys c) c
  -- a word and its complement add up to all ones
  pub invert : (w : Valuation) (n : ℕ) (xs : List ℤ) → All (IsOf n) xs
      → value w (inverted_word xs) + value w xs + 1 ≡ 2 ^ length xs
  -- less than; or at most, if `low` is true
  pub compare : (low : Made) (xs ys : List ℤ) → IsOf low.formula.vars low.literal
      → All (IsOf low.formula.vars) xs
      → All (IsOf low.formula.vars) ys → length ys ≡ length xs
      → IsBit low.formula (less_literal low xs ys)
      (λ w. if literal_true w low.literal then nat_le (value w xs) (value w ys)
      else nat_lt (value w xs) (value w ys))
  pub any : (known : Made) (xs : List ℤ) → IsOf known.formula.vars known.literal
      → All (IsOf known.formula.vars) xs
      → IsBit known.formula (any_of known xs)
      (λ w. literal_true w known.literal || list_any (literal_true w) xs)
