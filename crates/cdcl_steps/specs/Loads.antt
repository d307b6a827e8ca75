-- The clauses that a search begins with.
use Rattle.std.specs.Prelude.{◌≡◌, ◌≢◌, ℕ, ◌*◌, ◌<◌, List, [], ◌∷◌, ◌++◌, length, slice_index, Contains, All}
use Rattle.cdcl_literals.specs.Literals.{opposite_of}
use Rattle.cdcl_trail.specs.Trail.{Trail}
use Rattle.cdcl_clauses.specs.Clauses.{Clause, kept_clause}
use Rattle.cdcl_clauses.specs.Invariants.{AreRooted}
use Rattle.cdcl_steps.specs.declared.loading.Loaded.{Loaded}
use Rattle.cdcl_steps.specs.declared.loading.Loaded.TheVariants.{Taken, Refuted}

-- no level has begun, and nothing is propagated
pub record IsAtStart (t : Trail) : Type 0 where
  pub starts : t.starts ≡ []
  pub propagated : t.propagated ≡ 0

-- there are literals, all over `variables` variables, and the first two differ
pub record MayBeLoaded (variables : ℕ) (literals : List ℕ) : Type 0 where
  pub within : All (λ l. l < 2 * variables) literals
  pub some : 0 < length literals
  pub apart : 1 < length literals → slice_index literals 0 ≢ slice_index literals 1

-- one more clause is kept, with these literals
pub record WasLoaded (cs ds : List Clause) (literals : List ℕ) : Type 0 where
  pub first : ℕ
  pub second : ℕ
  pub clauses : ds ≡ cs ++ kept_clause literals first second ∷ []

-- a clause was taken, and unit clauses are still true; or it was refuted: its literals are false
abbrev pub Loads : Trail → List Clause → Trail → List Clause → List ℕ → Loaded → Type 0
Loads t cs u ds literals Taken = AreRooted t cs → AreRooted u ds
Loads t cs u ds literals Refuted =
    (x : ℕ) → Contains literals x → Contains u.literals (opposite_of x)
