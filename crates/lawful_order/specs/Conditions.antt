-- A signal wakes one of the threads that wait on its condition, if any; a broadcast wakes all.
-- There are no spurious wakeups, and a signal without a waiting thread is lost.
use Rattle.std.specs.Prelude.{◌≡◌, ◌⊎◌, ℕ, ◌<◌, ◌==◌, Bool, true, false, Some, slice_get}
use Rattle.sym_exec.specs.path_walk.Paths.{Paths}
use Rattle.sym_exec.specs.path_walk.declared.event.Event.{Event}
use Rattle.sym_exec.specs.path_walk.declared.event.EventKind.{EventKind}
use Rattle.sym_exec.specs.path_walk.declared.event.EventKind.TheVariants as kind
use Rattle.sym_exec.specs.path_walk.declared.event.Sleep.{Sleep}
use Rattle.order_formula.specs.Worlds.{World, position}
use Rattle.lawful_order.specs.Events.{Placed, all_events, all_sleeps, place_of, ender_of}

abbrev pub is_signal : ℕ → EventKind → Bool
is_signal c (kind.Signal d) = d == c
is_signal c _ = false

abbrev pub is_broadcast : ℕ → EventKind → Bool
is_broadcast c (kind.Broadcast d) = d == c
is_broadcast c _ = false

module _ (paths : Paths) (w : World) where
  -- the sleep number s is x, and x is on the condition c
  pub record IsSleep (s : ℕ) (x : Placed Sleep) (c : ℕ) : Type 0 where
    pub is : slice_get (all_sleeps paths) s ≡ Some x
    pub condition : x.it.condition ≡ c

  -- the event number g is a signal, or a broadcast, of the condition c
  pub record IsSignal (g c : ℕ) : Type 0 where
    pub event : Placed Event
    pub is : slice_get (all_events paths) g ≡ Some event
    pub signals : is_signal c event.it.kind ≡ true

  pub record IsBroadcast (g c : ℕ) : Type 0 where
    pub event : Placed Event
    pub is : slice_get (all_events paths) g ≡ Some event
    pub broadcasts : is_broadcast c event.it.kind ≡ true

  -- at the event g the sleep s has begun, and no event has ended it yet
  pub record Waits (s : ℕ) (x : Placed Sleep) (g : ℕ) : Type 0 where
    pub begun : place_of paths w x.thread x.it.step < position w g
    pub lasts : (h : ℕ) → ender_of w s ≡ Some h → position w h < position w g → ⊥

  pub record ConditionRule (c : ℕ) : Type 0 where
    -- the event that ends a sleep comes after the sleep has begun
    pub ends : (s g : ℕ) (x : Placed Sleep) → IsSleep s x c → ender_of w s ≡ Some g
        → place_of paths w x.thread x.it.step < position w g
    -- a thread wakes only after an event has ended its sleep
    pub wakes : (s k : ℕ) (x : Placed Sleep) → IsSleep s x c → x.it.wake ≡ Some k
        → (g : ℕ) × (ender_of w s ≡ Some g) × (position w g < place_of paths w x.thread k)
    -- a signal ends at most one sleep, and it ends one if any sleep waits
    pub one : (s r g : ℕ) → IsSignal g c → ender_of w s ≡ Some g → ender_of w r ≡ Some g → s ≡ r
    pub some : (s g : ℕ) (x : Placed Sleep) → IsSignal g c → IsSleep s x c → Waits s x g
        → (r : ℕ) × (ender_of w r ≡ Some g)
    -- a broadcast ends every sleep that waits
    pub each : (s g : ℕ) (x : Placed Sleep) → IsBroadcast g c → IsSleep s x c → Waits s x g
        → ender_of w s ≡ Some g
