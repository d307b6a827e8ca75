-- How a formula is stored in memory.
use Rattle.std.specs.Prelude.{map, ◌≡◌, ℕ, ◌≤◌, ◌<◌, IsTrue, List, [], ◌∷◌, ℤ, slice_range, length}
use Rattle.std.specs.Borrow.{Bor}
use Rattle.cnf_core.specs.Clauses.{are_clauses, Formula}
use Rattle.cnf_core.specs.declared.cnf.TheConstants.{LIMIT}
use Rattle.cnf_core.specs.declared.cnf.Cnf.TheInside.{Inside}

-- the slices of a list that end at these positions; the first starts at `from`
abbrev pub pieces : ℕ → List ℕ → List ℤ → List (List ℤ)
pieces from [] xs = []
pieces from (e ∷ es) xs = slice_range xs from e ∷ pieces e es xs

-- the positions are at least `from` and never decrease, and the last is `total`
abbrev pub EndAt : ℕ → List ℕ → ℕ → Type 0
EndAt from [] total = from ≡ total
EndAt from (e ∷ es) total = (from ≤ e) × EndAt e es total

-- the formula that is stored in memory
abbrev pub formula_of : Inside → Formula
formula_of c = record { vars = c.vars; clauses = pieces 0 c.ends.items c.literals.items }

-- the current lists behind references
abbrev pub all_now : List (Bor (List ℤ)) → List (List ℤ)
all_now cs = map (λ c. c.now) cs

pub record IsLaidOut (c : Inside) : Type 0 where
  pub ends : EndAt 0 c.ends.items (length c.literals.items)
  pub clauses : IsTrue (are_clauses c.vars (formula_of c).clauses)
  pub few_vars : c.vars < LIMIT
  pub few_clauses : length c.ends.items < LIMIT
