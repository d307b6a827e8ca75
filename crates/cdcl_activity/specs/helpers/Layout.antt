-- How activities are stored in memory.
use Rattle.std.specs.Prelude.{◌≡◌, ℕ, ◌^◌, ◌<◌, ◌≤◌, length, All}
use Rattle.cdcl_activity.specs.declared.activity.Activity.TheInside.{Inside}

-- the number of variables of an order by activity
abbrev pub variables_of : Inside → ℕ
variables_of a = length a.places.items

pub record IsLaidOut (a : Inside) : Type 0 where
  pub few : length a.places.items < 2 ^ 31
  pub heap_fits : length a.heap.items ≡ length a.places.items
  pub activities_fit : length a.activities.items ≡ length a.places.items
  pub negated_fit : length a.negated.items ≡ length a.places.items
  pub len_fits : a.len ≤ length a.places.items
  pub within : All (λ v. v < length a.places.items) a.heap.items
