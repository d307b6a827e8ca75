-- The literals that the check of a line takes as true, as they are stored in memory.
use Rattle.std.specs.Prelude.{◌≡◌, ℕ, suc, ◌+◌, ◌*◌, ◌<◌, ◌≤◌, false, IsTrue, List, [], ◌∷◌, ℤ, pos, negsuc, slice_index_or, length}
use Rattle.cnf_core.specs.Clauses.{var_of, is_within}
use Rattle.refute_check.specs.Literals.{is_among}
use Rattle.refute_check.specs.declared.given.Given.TheInside.{Inside}
use Rattle.refute_check.specs.declared.given.Left.{Left}
use Rattle.refute_check.specs.declared.given.Left.TheVariants.{Nothing, One, More}

-- some literals over the first `vars` variables
pub record Assumed : Type 0 where
  pub vars : ℕ
  pub literals : List ℤ

-- the index of a literal's mark
abbrev pub place_of : ℤ → ℕ
place_of (pos n) = 2 * n
place_of (negsuc n) = 2 * suc n + 1

abbrev pub assumed_of : Inside → Assumed
assumed_of g = record { vars = g.vars; literals = g.literals.items }

-- a literal is marked exactly if it is one of those taken as true
pub record AreMarked (g : Inside) : Type 0 where
  pub room : length g.marks.items ≡ 2 * g.vars + 2
  pub marked : (l : ℤ) → 0 < var_of l → var_of l ≤ g.vars
      → slice_index_or g.marks.items (place_of l) false ≡ is_among g.literals.items l
  pub within : IsTrue (is_within g.vars g.literals.items)

-- the literals that are left, if there is at most one
abbrev pub those : Left → List ℤ
those Nothing = []
those (One l) = l ∷ []
those More = []
