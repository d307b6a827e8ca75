-- How one more clause is attached.
use Rattle.std.specs.Prelude.{◌≡◌, ◌≢◌, ℕ, ◌*◌, ◌<◌, List, [], ◌∷◌, ◌++◌, length, take, slice_index, slice_set, Contains, All}
use Rattle.cdcl_literals.specs.Literals.{opposite_of}
use Rattle.cdcl_trail.specs.Trail.{Trail, IsOpen}
use Rattle.cdcl_clauses.specs.Clauses.{listed}
use Rattle.cdcl_clauses.specs.declared.watches.Watch.{Watch}

-- the watch lists with a clause added at both literals
abbrev pub both_listed : List (List Watch) → ℕ → ℕ → ℕ → List (List Watch)
both_listed ws k first second =
    let us : List (List Watch) = slice_set ws first
    (listed ws first ++ record { clause = k; blocker = second } ∷ []) in
    slice_set us second (listed us second ++ record { clause = k; blocker = first } ∷ [])

-- all is propagated; all literals except `asserted`, which is open, are false; `beside` is false on
-- no lower level; and a unit clause is asserted before the first level
pub record CanAssert (t : Trail) (literals : List ℕ) (asserted beside : ℕ) : Type 0 where
  pub propagated : t.propagated ≡ length t.literals
  pub within : All (λ l. l < 2 * t.variables) literals
  pub has : Contains literals asserted
  pub opens : IsOpen t asserted
  pub others : (x : ℕ) → Contains literals x → x ≢ asserted → Contains t.literals (opposite_of x)
  pub beside_in : Contains literals beside
  pub single : beside ≡ asserted → literals ≡ asserted ∷ []
  pub root : beside ≡ asserted → t.starts ≡ []
  pub high : (i : ℕ) → i < length t.starts → beside ≢ asserted
      → Contains (take (slice_index t.starts i) t.literals) (opposite_of beside) → ⊥
