-- What may end the sleeps on a condition, in a world where any event may end any sleep.
use Rattle.std.specs.Prelude.{◌≡◌, ◌⊎◌, ℕ, Some}
use Rattle.path_walk.specs.Paths.{Paths}
use Rattle.path_walk.specs.declared.event.Sleep.{Sleep}
use Rattle.order_formula.specs.Worlds.{World}
use Rattle.why_impossible.specs.reached_groups.lawful_order.Conditions.{IsBroadcast, IsSignal, IsSleep}
use Rattle.why_impossible.specs.reached_groups.lawful_order.Events.{Placed, ender_of}

module _ (paths : Paths) (w : World) where
  -- only its signals and broadcasts end them, and its signals end no other sleep
  pub record EnderRule (c : ℕ) : Type 0 where
    pub own : (s g : ℕ) (x : Placed Sleep) → IsSleep paths w s x c → ender_of w s ≡ Some g
        → IsSignal paths w g c ⊎ IsBroadcast paths w g c
    pub alone : (s g : ℕ) → IsSignal paths w g c → ender_of w s ≡ Some g
        → (x : Placed Sleep) × IsSleep paths w s x c
