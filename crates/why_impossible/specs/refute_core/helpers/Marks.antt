-- Marks of clauses, after more of them are set.
use Rattle.std.specs.Prelude.{◌≡◌, ◌⊎◌, ℕ, ◌+◌, List, length, get_or, Bool, true, false}
use Rattle.std.specs.List.{Contains}

-- the new marks are the old ones and those of some clauses, whose numbers count from 1
pub record AreMarked (old : List Bool) (numbers : List ℕ) (new : List Bool) : Type 0 where
  pub all : length new ≡ length old
  pub before : (place : ℕ) → get_or old place false ≡ true → get_or new place false ≡ true
  pub these : (place : ℕ) → Contains numbers (place + 1) → get_or new place false ≡ true
  pub only : (place : ℕ) → get_or new place false ≡ true
      → (get_or old place false ≡ true) ⊎ Contains numbers (place + 1)
