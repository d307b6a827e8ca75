-- Facts about the paths of a log: regions, sleeps, links and accesses begin and end with events.
use Rattle.std.specs.Prelude.{◌≡◌, ◌⊎◌, ℕ, ◌<◌, List, length, Option, Some, None, IsSome, slice_get}
use Rattle.std.specs.List.{Contains}
use Rattle.sym_exec.specs.path_walk.Paths.{Walk, Paths}
use Rattle.sym_exec.specs.path_walk.declared.event.Event.{Event}
use Rattle.sym_exec.specs.path_walk.declared.event.EventKind.{EventKind}
use Rattle.sym_exec.specs.path_walk.declared.event.EventKind.TheVariants as kind
use Rattle.sym_exec.specs.path_walk.declared.event.Region.{Region}
use Rattle.sym_exec.specs.path_walk.declared.event.Sleep.{Sleep}
use Rattle.sym_exec.specs.path_walk.declared.event.Link.{Link}
use Rattle.sym_exec.specs.Executed.{Course, Symbolic}
use Rattle.sym_exec.specs.declared.symbolic.Access.{Access}
use Rattle.lawful_order.specs.Events.{Has, HasEvent, HasRegion, Creates, Joins, all_events}
use Rattle.lawful_order.specs.Reads.{HasAccess}

-- a thread's step is an event
abbrev pub HasStep : Paths → (thread step : ℕ) → Type 0
HasStep paths t k = (x : Event) × HasEvent paths t x × (x.step ≡ k)

pub record AreWhole (paths : Paths) : Type 0 where
  pub counted : paths.events ≡ length (all_events paths)
  -- a thread's events are in the order of their steps
  pub rise : (t j k : ℕ) (q : Walk) (x y : Event) → slice_get paths.threads t ≡ Some q
      → slice_get q.events j ≡ Some x
      → slice_get q.events k ≡ Some y → j < k → x.step < y.step
  pub taken : (t : ℕ) (r : Region) → HasRegion paths t r → HasStep paths t r.«from»
  pub left : (t k : ℕ) (r : Region) → HasRegion paths t r → r.to ≡ Some k → HasStep paths t k
  pub slept : (t : ℕ) (s : Sleep) → Has paths t (λ q. q.sleeps) s → HasStep paths t s.step
  pub woken : (t k : ℕ) (s : Sleep) → Has paths t (λ q. q.sleeps) s → s.wake ≡ Some k
      → HasStep paths t k
  pub created : (t : ℕ) (l : Link) → Creates paths t l → HasStep paths t l.step
  pub joined : (t : ℕ) (l : Link) → Joins paths t l → HasStep paths t l.step

-- the kind of an access's event
abbrev pub kind_of : (takes writes : Option ℕ) → EventKind
kind_of (Some _) None = kind.Load
kind_of (Some _) (Some _) = kind.Exchange
kind_of None _ = kind.Store

-- the execution has the paths' threads, and each of its accesses is an event of its thread
pub record IsExecutedBy (paths : Paths) (symbolic : Symbolic) : Type 0 where
  pub threads : length symbolic.threads ≡ length paths.threads
  pub accesses : (t : ℕ) (a : Access) → HasAccess symbolic t a
      → (x : Event) × HasEvent paths t x × (x.step ≡ a.step) × (x.kind ≡ kind_of a.takes a.writes)
  -- each load, store and exchange event is an access
  pub events : (t : ℕ) (x : Event) → HasEvent paths t x
      → (x.kind ≡ kind.Load) ⊎ ((x.kind ≡ kind.Store) ⊎ (x.kind ≡ kind.Exchange))
      → (a : Access) × HasAccess symbolic t a × (a.step ≡ x.step)
  -- a thread's accesses are in the order of their steps
  pub rise : (t j k : ℕ) (c : Course) (a b : Access) → slice_get symbolic.threads t ≡ Some c
      → slice_get c.accesses j ≡ Some a
      → slice_get c.accesses k ≡ Some b → j < k → a.step < b.step
  -- the number of each load is in range
  pub takes : (t : ℕ) (a : Access) (k : ℕ) → HasAccess symbolic t a → a.takes ≡ Some k
      → k < symbolic.loads
