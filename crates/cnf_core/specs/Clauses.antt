-- Literals, clauses, formulas, and the valuations that satisfy them.
use Rattle.std.specs.Prelude.{ℕ, zero, suc, ◌-◌, Bool, true, false, not, ◌&&◌, nat_lt, nat_le, IsTrue, List, [], ◌∷◌, ℤ, pos, negsuc, slice_index_or}
use Rattle.std.specs.List.{list_any, list_all}

-- the variable of a literal
abbrev pub var_of : ℤ → ℕ
var_of (pos n) = n
var_of (negsuc n) = suc n

-- the variables of the literals rise strictly, and all are above `low`
abbrev pub rises_above : ℕ → List ℤ → Bool
rises_above low [] = true
rises_above low (l ∷ ls) = nat_lt low (var_of l) && rises_above (var_of l) ls

-- a clause: a list of literals whose variables are at least 1 and rise strictly
abbrev pub is_clause : List ℤ → Bool
is_clause c = rises_above 0 c

-- each variable of a clause is at most `vars`
abbrev pub is_within : ℕ → List ℤ → Bool
is_within vars c = list_all (λ l. nat_le (var_of l) vars) c

-- each list is a clause over the variables 1 to `vars`
abbrev pub are_clauses : ℕ → List (List ℤ) → Bool
are_clauses vars cs = list_all (λ c. is_clause c && is_within vars c) cs

-- a formula in conjunctive normal form: the number of its variables, and its clauses
pub record Formula : Type 0 where
  pub vars : ℕ
  pub clauses : List (List ℤ)

-- a value for every variable
abbrev pub Valuation : Type 0
Valuation = ℕ → Bool

-- the value of a literal; there is no variable 0
abbrev pub literal_true : Valuation → ℤ → Bool
literal_true v (pos zero) = false
literal_true v (pos (suc n)) = v (suc n)
literal_true v (negsuc n) = not (v (suc n))

-- a clause is true if one of its literals is
abbrev pub clause_true : Valuation → List ℤ → Bool
clause_true v c = list_any (literal_true v) c

-- a valuation satisfies clauses if each of them is true
abbrev pub satisfies : Valuation → List (List ℤ) → Bool
satisfies v cs = list_all (clause_true v) cs

-- no valuation satisfies the clauses
abbrev pub IsUnsatisfiable : List (List ℤ) → Type 0
IsUnsatisfiable cs = (v : Valuation) → IsTrue (satisfies v cs) → ⊥

-- the valuation of an assignment, which lists the values of the variables 1, 2 and so on
abbrev pub value_in : List Bool → Valuation
value_in a n = slice_index_or a (n - 1) false
