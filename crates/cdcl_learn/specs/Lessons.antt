-- What a conflict teaches.
use Rattle.std.specs.Prelude.{◌≡◌, ◌≢◌, ℕ, ◌<◌, List, [], ◌∷◌, length, take, slice_index, Contains, All}
use Rattle.cdcl_literals.specs.Literals.{opposite_of}
use Rattle.cdcl_trail.specs.Trail.{Trail}
use Rattle.cdcl_clauses.specs.Clauses.{Clause}
use Rattle.cdcl_learn.specs.Shown.{Shows}
use Rattle.cdcl_learn.specs.declared.lesson.Lesson.{Lesson}
use Rattle.cdcl_learn.specs.declared.lesson.Turn.{Turn}
use Rattle.cdcl_learn.specs.declared.lesson.Turn.TheVariants.{Closed, Back}

-- after backtracking to `level`, `asserted` is open and all other literals of the clause are false;
-- `beside` isn't false on any lower level; a unit clause backtracks all levels
pub record TurnsBack (t : Trail) (literals : List ℕ) (level asserted beside : ℕ) : Type 0 where
  pub level_within : level < length t.starts
  pub has : Contains literals asserted
  pub was_false : Contains t.literals (opposite_of asserted)
  pub opens : Contains (take (slice_index t.starts level) t.literals) (opposite_of asserted) → ⊥
  pub others : (x : ℕ) → Contains literals x → x ≢ asserted
      → Contains (take (slice_index t.starts level) t.literals) (opposite_of x)
  pub beside_in : Contains literals beside
  pub single : beside ≡ asserted → literals ≡ asserted ∷ []
  pub root : beside ≡ asserted → level ≡ 0
  pub high : (i : ℕ) → i < level → beside ≢ asserted
      → Contains (take (slice_index t.starts i) t.literals) (opposite_of beside) → ⊥

-- the backtracking fits the clause
abbrev pub TurnFits : Trail → List ℕ → Turn → Type 0
TurnFits t literals Closed = literals ≡ []
TurnFits t literals (Back level asserted beside) = TurnsBack t literals level asserted beside

-- a clause whose literals are all false, with hints that prove it
pub record IsLesson (t : Trail) (cs : List Clause) (l : Lesson) : Type 0 where
  pub all_false : All (λ x. Contains t.literals (opposite_of x)) l.literals.items
  pub shown : Shows cs l.literals.items l.hints.items
  pub turn : TurnFits t l.literals.items l.turn
