-- The state of a conflict analysis.
use Rattle.std.specs.Prelude.{◌≡◌, ◌≢◌, ℕ, ◌<◌, ◌≤◌, ◌⊎◌, Bool, true, false, List, length, drop, reverse, slice_index, slice_index_or, Contains, count_by}
use Rattle.cdcl_literals.specs.Literals.{variable_of, opposite_of}
use Rattle.cdcl_trail.specs.Trail.{Trail}
use Rattle.cdcl_clauses.specs.Clauses.{Clause}
use Rattle.cdcl_learn.specs.Shown.{Leads}

-- the analysis has met this place and hasn't resolved it
abbrev pub IsMet : List Bool → ℕ → Type 0
IsMet met p = slice_index_or met p false ≡ true

-- the number of met places from `base` on
abbrev pub open_from : List Bool → ℕ → ℕ
open_from met base = count_by (λ b. b) (drop base met)

-- the hints lead to a conflict from any part of the trail that has the literals of all met places
abbrev pub Suffices : Trail → List Clause → List Bool → List ℕ → Type 0
Suffices t cs met hints =
    (given : List ℕ) → ((x : ℕ) → Contains given x → Contains t.literals x)
    → ((p : ℕ) → IsMet met p → Contains given (slice_index t.literals p))
    → Leads cs given (reverse hints)

-- the count and the literals agree with the met places
pub record Tallies (t : Trail) (met : List Bool) (count_open root base : ℕ)
    (literals : List ℕ) : Type 0 where
  pub size : length met ≡ length t.literals
  pub count : count_open ≡ open_from met base
  pub taken : (p : ℕ) → root ≤ p → p < base → IsMet met p
      → Contains literals (opposite_of (slice_index t.literals p))
  pub from_places : (x : ℕ) → Contains literals x
      → (p : ℕ) × (root ≤ p) × (p < base) × (x ≡ opposite_of (slice_index t.literals p))

-- one more place is met, and no other place changes
pub record Marks (old new : List Bool) (place : ℕ) : Type 0 where
  pub this : IsMet new place
  pub kept : (p : ℕ) → IsMet old p → IsMet new p
  pub only : (p : ℕ) → IsMet new p → IsMet old p ⊎ (p ≡ place)

-- the places of all these literals are met
pub record Meets (t : Trail) (old new : List Bool) (literals : List ℕ) : Type 0 where
  pub all : (x p : ℕ) → Contains literals x → p < length t.literals
      → variable_of (slice_index t.literals p) ≡ variable_of x → IsMet new p
  pub kept : (p : ℕ) → IsMet old p → IsMet new p
  pub only : (p : ℕ) → IsMet new p
      → IsMet old p
      ⊎ ((x : ℕ) × Contains literals x × (variable_of (slice_index t.literals p) ≡ variable_of x))

-- a place isn't met any more, and only places before it are newly met
pub record Resolves (old new : List Bool) (place : ℕ) : Type 0 where
  pub gone : slice_index_or new place false ≡ false
  pub only : (p : ℕ) → IsMet new p → IsMet old p ⊎ (p < place)
  pub kept : (p : ℕ) → p ≢ place → IsMet old p → IsMet new p

-- the place is the only met place from `base` on
pub record IsLast (t : Trail) (met : List Bool) (base p : ℕ) : Type 0 where
  pub low : base ≤ p
  pub high : p < length t.literals
  pub met_there : IsMet met p
  pub only : (q : ℕ) → base ≤ q → IsMet met q → q ≡ p

-- no place before `root` is met, and the others are as they were
pub record IsCleared (old new : List Bool) (root : ℕ) : Type 0 where
  pub none : (p : ℕ) → p < root → IsMet new p → ⊥
  pub kept : (p : ℕ) → root ≤ p → IsMet old p → IsMet new p
  pub only : (p : ℕ) → root ≤ p → IsMet new p → IsMet old p
