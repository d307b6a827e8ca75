-- For the log of a deadlock: at the end, no thread that hasn't exited can go on.
use Rattle.std.specs.Prelude.{◌≡◌, ◌⊎◌, ℕ, Option, Some, None, slice_get}
use Rattle.sym_exec.specs.path_walk.Paths.{Walk, Paths}
use Rattle.sym_exec.specs.path_walk.declared.event.Blocked.{Blocked}
use Rattle.sym_exec.specs.path_walk.declared.event.Blocked.TheVariants.{Lock, Wake, Join}
use Rattle.sym_exec.specs.path_walk.declared.event.Event.{Event}
use Rattle.sym_exec.specs.path_walk.declared.event.EventKind.TheVariants as kind
use Rattle.sym_exec.specs.path_walk.declared.event.Region.{Region}
use Rattle.sym_exec.specs.path_walk.declared.event.Sleep.{Sleep}
use Rattle.order_formula.specs.Worlds.{World}
use Rattle.lawful_order.specs.Events.{Placed, HasEvent, HasRegion, IsChild, all_sleeps, ender_of}

module _ (paths : Paths) (w : World) where
  -- a thread, which may have exited, holds the mutex at the end: its region is open
  pub record IsHeld (mutex : ℕ) : Type 0 where
    pub thread : ℕ
    pub region : Region
    pub there : HasRegion paths thread region
    pub of : region.mutex ≡ mutex
    pub lasts : region.to ≡ None

  -- no event ends the sleep that a thread's step begins
  abbrev pub SleepsOn : (t step : ℕ) → Type 0
  SleepsOn t k =
      (s : ℕ) (x : Placed Sleep) → slice_get (all_sleeps paths) s ≡ Some x → x.thread ≡ t
      → x.it.step ≡ k → ender_of w s ≡ None

  -- the child `child` of the thread t doesn't exit
  abbrev pub RunsOn : (t child : ℕ) → Type 0
  RunsOn t k =
      (c : ℕ) (x : Event) → IsChild paths t k c → HasEvent paths c x → x.kind ≡ kind.Exit → ⊥

  abbrev pub CannotGoOn : ℕ → Blocked → Type 0
  CannotGoOn t (Lock m) = IsHeld m
  CannotGoOn t (Wake c m k) = IsHeld m ⊎ SleepsOn t k
  CannotGoOn t (Join k) = RunsOn t k

  -- if the thread t is blocked at the end, it can't go on
  pub record StuckRule (t : ℕ) : Type 0 where
    pub stuck : (q : Walk) (b : Blocked) → slice_get paths.threads t ≡ Some q → q.blocked ≡ Some b
        → CannotGoOn t b
