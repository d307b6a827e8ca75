-- How unit propagation through other clauses, in order, proves a clause.
use Rattle.std.specs.Prelude.{◌≡◌, ◌≢◌, ℕ, ◌<◌, true, List, [], ◌∷◌, ◌++◌, length, map, Contains}
use Rattle.cdcl_literals.specs.Literals.{opposite_of}
use Rattle.cdcl_clauses.specs.Clauses.{Clause, at}

-- the clause is kept, and all its literals are false
pub record Refutes (cs : List Clause) (given : List ℕ) (k : ℕ) : Type 0 where
  pub there : k < length cs
  pub kept : (at cs k).kept ≡ true
  pub all_false : (x : ℕ) → Contains (at cs k).literals x → Contains given (opposite_of x)

-- the clause is kept, and all its literals are false except one, which isn't
pub record Forces (cs : List Clause) (given : List ℕ) (k l : ℕ) : Type 0 where
  pub there : k < length cs
  pub kept : (at cs k).kept ≡ true
  pub has : Contains (at cs k).literals l
  pub others : (x : ℕ) → Contains (at cs k).literals x → x ≢ l → Contains given (opposite_of x)
  pub not_false : Contains given (opposite_of l) → ⊥

-- the hints lead to a conflict: each forces a literal, and all literals of the last are false
abbrev pub Leads : List Clause → List ℕ → List ℕ → Type 0
Leads cs given [] = ⊥
Leads cs given (h ∷ []) = Refutes cs given h
Leads cs given (h ∷ g ∷ hs) = (l : ℕ) × Forces cs given h l × Leads cs (given ++ l ∷ []) (g ∷ hs)

-- the hints prove the clause: they lead to a conflict if its literals are false
abbrev pub Shows : List Clause → List ℕ → List ℕ → Type 0
Shows cs literals hints = Leads cs (map opposite_of literals) hints
