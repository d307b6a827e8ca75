-- The values that literals give to variables, and the first clause that values make false.
use Rattle.std.specs.Prelude.{◌≡◌, ℕ, ◌+◌, ◌<◌, Bool, false, IsTrue, List, [], length, map, take, slice_index_or, ℤ, pos}
use Rattle.std.specs.List.{list_any, range_with_len}
use Rattle.std.specs.Ordering.{int_eq}
use Rattle.cnf_core.specs.Clauses.{Valuation, clause_true, satisfies}

-- whether a variable is true: its positive literal is in the list
abbrev pub is_made_true : List ℤ → ℕ → Bool
is_made_true literals var = list_any (int_eq (pos var)) literals

-- the values of the variables 1 to `vars`
abbrev pub assigned : ℕ → List ℤ → List Bool
assigned vars literals = map (λ place. is_made_true literals (place + 1)) (range_with_len 0 vars)

-- the clause at `place`, from 0, is false, and all before it are true
pub record IsFirstFalse (v : Valuation) (cs : List (List ℤ)) (place : ℕ) : Type 0 where
  pub there : place < length cs
  pub before : IsTrue (satisfies v (take place cs))
  pub not_true : clause_true v (slice_index_or cs place []) ≡ false
