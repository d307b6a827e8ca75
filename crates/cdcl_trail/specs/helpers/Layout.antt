-- How a trail is stored in memory.
use Rattle.std.specs.Prelude.{◌≡◌, ◌≢◌, ℕ, ◌*◌, ◌^◌, ◌<◌, ◌≤◌, take, length, slice_index, slice_index_or}
use Rattle.cdcl_literals.specs.Literals.{variable_of, opposite_of}
use Rattle.cdcl_trail.specs.Trail.{Trail}
use Rattle.cdcl_trail.specs.declared.trail.Value.TheVariants.{Open, True, False}
use Rattle.cdcl_trail.specs.declared.trail.Trail.TheInside.{Inside}

-- the trail that is stored in memory
abbrev pub trail_of : Inside → Trail
trail_of a = record {
  variables = length a.places.items;
  literals = take a.len a.literals.items;
  reasons = take a.len a.reasons.items;
  starts =
      take a.levels a.starts.items;
  propagated = a.propagated;
}

-- the literal at a place of the trail is true, its opposite is false, and the place is recorded
pub record StandsAt (a : Inside) (k : ℕ) : Type 0 where
  pub within : slice_index a.literals.items k < 2 * length a.places.items
  pub true_there : slice_index_or a.values.items (slice_index a.literals.items k) Open ≡ True
  pub false_there : slice_index_or a.values.items
      (opposite_of (slice_index a.literals.items k)) Open ≡ False
  pub known : slice_index a.places.items (variable_of (slice_index a.literals.items k)) ≡ k

-- the variable of a literal that isn't open is on the trail, at its recorded place
pub record IsPlaced (a : Inside) (l : ℕ) : Type 0 where
  pub on_trail : slice_index a.places.items (variable_of l) < a.len
  pub there : variable_of
      (slice_index a.literals.items (slice_index a.places.items (variable_of l))) ≡ variable_of l

-- a level begins after all earlier levels, and no later than the propagated part ends
pub record StartsWell (a : Inside) (k : ℕ) : Type 0 where
  pub high : k ≤ slice_index a.starts.items k
  pub early : slice_index a.starts.items k ≤ a.propagated
  pub proper : slice_index a.starts.items k < a.len
  pub after_others : (i : ℕ) → i < k → slice_index a.starts.items i < slice_index a.starts.items k

pub record IsLaidOut (a : Inside) : Type 0 where
  pub few : length a.places.items < 2 ^ 31
  pub values_fit : length a.values.items ≡ 2 * length a.places.items
  pub literals_fit : length a.literals.items ≡ length a.places.items
  pub reasons_fit : length a.reasons.items ≡ length a.places.items
  pub starts_fit : length a.starts.items ≡ length a.places.items
  pub len_fits : a.len ≤ length a.places.items
  pub levels_fit : a.levels ≤ a.len
  pub propagated_fits : a.propagated ≤ a.len
  pub stands : (k : ℕ) → k < a.len → StandsAt a k
  pub placed : (l : ℕ) → l < 2 * length a.places.items
      → slice_index_or a.values.items l Open ≢ Open → IsPlaced a l
  pub starts : (k : ℕ) → k < a.levels → StartsWell a k
