-- The assignment of a full trail.
use Rattle.std.specs.Prelude.{◌≡◌, ℕ, Bool, true, List, length, Contains, ℤ, IsTrue}
use Rattle.cnf_core.specs.Clauses.{literal_true, value_in, satisfies}
use Rattle.cdcl_trail.specs.Trail.{Trail}
use Rattle.cdcl_learn.specs.cdcl_clauses.Clauses.{Clause}
use Rattle.cdcl_learn.specs.cdcl_clauses.Invariants.{AreConsistent}
use Rattle.cdcl_learn.specs.cdcl_clauses.declared.watches.Watch.{Watch}
use Rattle.cdcl_steps.specs.Descents.{IsFull}
use Rattle.cdcl_lines.specs.Literals.{literal_of}
use Rattle.cdcl_lines.specs.Keeping.{KeepsAll}

-- each variable has a value, and the values make the literals of the trail true
pub record Agrees (t : Trail) (values : List Bool) : Type 0 where
  pub count : length values ≡ t.variables
  pub same : (l : ℕ) → Contains t.literals l → literal_true (value_in values) (literal_of l) ≡ true

-- if no variable is open and all is propagated without conflict, the values satisfy the clauses
abbrev pub FullSatisfies : Type 0
FullSatisfies =
    (t : Trail) (cs : List Clause) (ws : List (List Watch)) (clauses : List (List ℤ))
    (values : List Bool) → AreConsistent t cs ws → IsFull t
    → t.propagated ≡ length t.literals → KeepsAll clauses cs → Agrees t values
    → IsTrue (satisfies (value_in values) clauses)
