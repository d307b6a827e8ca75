-- A thread's events come after its create, and a join comes after the thread's exit.
use Rattle.std.specs.Prelude.{◌≡◌, ℕ}
use Rattle.sym_exec.specs.path_walk.Paths.{Paths}
use Rattle.sym_exec.specs.path_walk.declared.event.Event.{Event}
use Rattle.sym_exec.specs.path_walk.declared.event.EventKind.TheVariants as kind
use Rattle.sym_exec.specs.path_walk.declared.event.Link.{Link}
use Rattle.order_formula.specs.Worlds.{World}
use Rattle.lawful_order.specs.Events.{HasEvent, Creates, Joins, IsChild, IsBefore}

module _ (paths : Paths) (w : World) where
  -- the thread c exits before a step of the thread t
  pub record HasExited (c t step : ℕ) : Type 0 where
    pub exit : Event
    pub there : HasEvent paths c exit
    pub exits : exit.kind ≡ kind.Exit
    pub before : IsBefore paths w c exit.step t step

  pub record ChildRule (c : ℕ) : Type 0 where
    pub created : (t : ℕ) (l : Link) (x : Event) → Creates paths t l → IsChild paths t l.child c
        → HasEvent paths c x
        → IsBefore paths w t l.step c x.step
    pub joined : (t : ℕ) (l : Link) → Joins paths t l → IsChild paths t l.child c
        → HasExited c t l.step
