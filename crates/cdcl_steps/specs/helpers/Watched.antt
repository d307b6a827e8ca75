-- What a clause watches when it is loaded.
use Rattle.std.specs.Prelude.{◌≡◌, ◌≢◌, ℕ, List, length, slice_index}

-- a clause watches its first two literals, or its only one twice
pub record AreWatched (ls : List ℕ) (a b : ℕ) : Type 0 where
  pub first : a ≡ slice_index ls 0
  pub one : length ls ≡ 1 → b ≡ a
  pub more : length ls ≢ 1 → b ≡ slice_index ls 1
