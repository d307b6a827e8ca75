-- From one conflict to the next.
use Rattle.std.specs.Prelude.{◌≡◌, ℕ, ◌<◌, ◌≤◌, List, length, take}
use Rattle.cdcl_literals.specs.Literals.{positive_of}
use Rattle.cdcl_trail.specs.Trail.{Trail, IsOpen}
use Rattle.cdcl_clauses.specs.Clauses.{Clause}
use Rattle.cdcl_clauses.specs.Invariants.{AreConsistent, AreSame, AreRooted}
use Rattle.cdcl_clauses.specs.declared.watches.Watch.{Watch}

-- no variable is open
abbrev pub IsFull : Trail → Type 0
IsFull t = (v : ℕ) → v < t.variables → IsOpen t (positive_of v) → ⊥

-- the trail only grows, the clauses change only in what they watch, and the invariants hold
pub record Descends (t : Trail) (cs : List Clause) (u : Trail) (ds : List Clause)
    (vs : List (List Watch)) : Type 0 where
  pub sound : AreConsistent u ds vs
  pub same : AreSame cs ds
  pub variables : u.variables ≡ t.variables
  pub literals : take (length t.literals) u.literals ≡ t.literals
  pub longer : length t.literals ≤ length u.literals
  pub rooted : AreRooted t cs → AreRooted u ds

-- the variable is open
pub record IsChosen (t : Trail) (v : ℕ) : Type 0 where
  pub within : v < t.variables
  pub opens : IsOpen t (positive_of v)
