-- At most one thread holds a mutex at a time.
use Rattle.std.specs.Prelude.{◌≡◌, ◌⊎◌, ◌≢◌, ℕ, Some}
use Rattle.sym_exec.specs.path_walk.Paths.{Paths}
use Rattle.sym_exec.specs.path_walk.declared.event.Region.{Region}
use Rattle.order_formula.specs.Worlds.{World}
use Rattle.lawful_order.specs.Events.{HasRegion, IsBefore}

module _ (paths : Paths) (w : World) where
  -- the region r ends before the region s begins; an open region has no end
  abbrev pub IsLeftBefore : (t : ℕ) → Region → (u : ℕ) → Region → Type 0
  IsLeftBefore t r u s = (k : ℕ) × (r.to ≡ Some k) × IsBefore paths w t k u s.«from»

  pub record MutexRule (m : ℕ) : Type 0 where
    pub exclusive : (t u : ℕ) (r s : Region) → HasRegion paths t r → HasRegion paths u s
        → r.mutex ≡ m → s.mutex ≡ m
        → (t ≢ u) ⊎ (r.«from» ≢ s.«from») → IsLeftBefore t r u s ⊎ IsLeftBefore u s t r
