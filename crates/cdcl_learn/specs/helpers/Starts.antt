-- The beginning and the end of an analysis.
use Rattle.std.specs.Prelude.{◌≡◌, ℕ, ◌-◌, ◌<◌, ◌≤◌, ◌⊎◌, List, [], length, take, slice_index, Contains}
use Rattle.cdcl_literals.specs.Literals.{variable_of, opposite_of}
use Rattle.cdcl_learn.specs.declared.lesson.Turn.{Turn}
use Rattle.cdcl_learn.specs.declared.lesson.Turn.TheVariants.{Closed, Back}
use Rattle.cdcl_trail.specs.Trail.{Trail}
use Rattle.cdcl_clauses.specs.Clauses.{Clause}
use Rattle.cdcl_clauses.specs.Invariants.{IsConflict}
use Rattle.cdcl_learn.specs.helpers.Analyses.{Tallies, Suffices}
use Rattle.cdcl_learn.specs.declared.analysis.Analysis.{Analysis}

-- the conflict is met; if the next literal to propagate is on the last level, a place there is open
pub record IsStarted (t : Trail) (cs : List Clause) (conflict root base : ℕ)
    (a : Analysis) : Type 0 where
  pub tallies : Tallies t a.met.items a.pending root base a.literals.items
  pub suffices : Suffices t cs a.met.items a.hints.items
  pub some : IsConflict t cs conflict → base ≤ t.propagated → 0 < a.pending

-- the literals are false by places of the trail below the last level
abbrev pub AreLower : Trail → List ℕ → Type 0
AreLower t ls =
    (x : ℕ) → Contains ls x
    → (p : ℕ) × (p < slice_index t.starts (length t.starts - 1))
    × (x ≡ opposite_of (slice_index t.literals p))

-- `b` is the highest of these literals on the trail
pub record IsHighest (t : Trail) (ls : List ℕ) (b : ℕ) : Type 0 where
  pub has : Contains ls b
  pub highest : (x p q : ℕ) → Contains ls x → p < length t.literals → q < length t.literals
      → variable_of (slice_index t.literals p) ≡ variable_of x
      → variable_of (slice_index t.literals q) ≡ variable_of b → p ≤ q

-- the first level that begins after a place
pub record IsLevelAfter (t : Trail) (place level : ℕ) : Type 0 where
  pub within : level < length t.starts
  pub after : place < slice_index t.starts level
  pub first : (i : ℕ) → i < level → slice_index t.starts i ≤ place

-- backtracking to a level, where `ls` are the literals other than the asserted one
pub record IsTurn (t : Trail) (ls : List ℕ) (a level asserted beside : ℕ) : Type 0 where
  pub same : asserted ≡ a
  pub within : level < length t.starts
  pub lower : (x : ℕ) → Contains ls x
      → Contains (take (slice_index t.starts level) t.literals) (opposite_of x)
  pub alone : (ls ≡ []) ⊎ Contains ls beside
  pub single : ls ≡ [] → beside ≡ a
  pub root : ls ≡ [] → level ≡ 0
  pub high : (i : ℕ) → i < level → Contains ls beside
      → Contains (take (slice_index t.starts i) t.literals) (opposite_of beside) → ⊥

-- the backtracking fits, where `ls` are the literals other than the asserted one
abbrev pub Turns : Trail → List ℕ → ℕ → Turn → Type 0
Turns t ls a Closed = ⊥
Turns t ls a (Back level asserted beside) = IsTurn t ls a level asserted beside
