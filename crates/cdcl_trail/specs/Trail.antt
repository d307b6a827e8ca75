-- The trail of a search.
use Rattle.std.specs.Prelude.{◌≡◌, ◌≢◌, ℕ, ◌*◌, ◌<◌, ◌≤◌, Option, None, Some, List, [], ◌∷◌, ◌++◌, length, take, slice_index, slice_index_or, Contains}
use Rattle.cdcl_literals.specs.Literals.{variable_of, opposite_of}
use Rattle.cdcl_trail.specs.declared.trail.Value.{Value}
use Rattle.cdcl_trail.specs.declared.trail.Value.TheVariants.{Open, True, False}

-- the true literals, in the order in which they became true; for each its reason, a clause, or none
-- if it was decided; the trail's length at each decision; and how far the trail is propagated
pub record Trail : Type 0 where
  pub variables : ℕ
  pub literals : List ℕ
  pub reasons : List (Option ℕ)
  pub starts : List ℕ
  pub propagated : ℕ

-- the trail on which no literal is true
abbrev pub empty : ℕ → Trail
empty n = record { variables = n; literals = []; reasons = []; starts = []; propagated = 0 }

-- neither the literal nor its opposite is true
pub record IsOpen (t : Trail) (l : ℕ) : Type 0 where
  pub not_true : Contains t.literals l → ⊥
  pub not_false : Contains t.literals (opposite_of l) → ⊥

-- the literal is true, and its opposite isn't
pub record IsHeld (t : Trail) (l : ℕ) : Type 0 where
  pub there : Contains t.literals l
  pub not_false : Contains t.literals (opposite_of l) → ⊥

-- the literal has this value
abbrev pub Is : Trail → ℕ → Value → Type 0
Is t l Open = IsOpen t l
Is t l True = IsHeld t l
Is t l False = Contains t.literals (opposite_of l)

-- the trail with one more true literal
abbrev pub pushed : Trail → ℕ → Option ℕ → Trail
pushed t l reason = record t { literals = t.literals ++ l ∷ []; reasons = t.reasons ++ reason ∷ [] }

-- the trail with a decided literal, which begins a level
abbrev pub decided : Trail → ℕ → Trail
decided t l = record (pushed t l None) { starts = t.starts ++ length t.literals ∷ [] }

-- the trail as it was when a level began
abbrev pub cut_to : Trail → ℕ → Trail
cut_to t level = let n = slice_index t.starts level in
    record t {
      literals = take n t.literals;
      reasons = take n t.reasons;
      starts = take level t.starts;
      propagated = n;
    }

-- the clause isn't the reason of any true literal
abbrev pub IsNoReason : Trail → ℕ → Type 0
IsNoReason t k = (p : ℕ) → p < length t.literals → slice_index_or t.reasons p None ≢ Some k

-- the invariant of a trail
pub record IsTrail (t : Trail) : Type 0 where
  pub few : length t.literals ≤ t.variables
  pub reasons_fit : length t.reasons ≡ length t.literals
  pub within : (k : ℕ) → k < length t.literals → slice_index t.literals k < 2 * t.variables
  pub apart : (i k : ℕ) → i < length t.literals → k < length t.literals
      → variable_of (slice_index t.literals i) ≡ variable_of (slice_index t.literals k) → i ≡ k
  pub propagated_fits : t.propagated ≤ length t.literals
  pub starts_early : (k : ℕ) → k < length t.starts → slice_index t.starts k ≤ t.propagated
  pub starts_proper : (k : ℕ) → k < length t.starts → slice_index t.starts k < length t.literals
  pub starts_rise : (i k : ℕ) → i < k → k < length t.starts
      → slice_index t.starts i < slice_index t.starts k
