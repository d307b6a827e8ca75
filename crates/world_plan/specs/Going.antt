-- A history that follows the order of a world up to a position.
use Rattle.std.specs.Prelude.{◌≡◌, ◌↔◌, ◌⊎◌, ℕ, ◌<◌, ◌≤◌, List, Bool, true, false, ◌&&◌, None, Some, slice_get}
use Rattle.std.specs.List.{Contains}
use Rattle.order_events.specs.run_log.Logs.{Log}
use Rattle.order_events.specs.tc_code.Code.{Code}
use Rattle.sym_laws.specs.run_history.History.{Deed, has_drained}
use Rattle.sym_laws.specs.run_history.Told.{steps_in, failed_in}
use Rattle.order_events.specs.path_walk.Fits.{Fits}
use Rattle.order_events.specs.path_walk.Paths.{Walk, paths_of}
use Rattle.order_events.specs.path_walk.declared.event.Event.{Event}
use Rattle.order_events.specs.path_walk.declared.event.Sleep.{Sleep}
use Rattle.sym_laws.specs.path_laws.Setting.{Setting}
use Rattle.sym_laws.specs.path_laws.events.Done.{IsAsleepIn}
use Rattle.sym_laws.specs.path_laws.history.Along.{IsAlongPaths, IsThread, PathThread}
use Rattle.order_events.specs.sym_terms.Terms.{AreTerms}
use Rattle.order_events.specs.sym_terms.declared.node.Node.{Node}
use Rattle.sym_laws.specs.Valued.{AgreesWith, found}
use Rattle.order_events.specs.order_formula.Worlds.{World, IsWorld, position}
use Rattle.order_events.specs.lawful_order.Events.{Placed, all_sleeps, place_of, ender_of}
use Rattle.order_events.specs.lawful_order.Lawful as order
use Rattle.order_events.specs.lawful_order.Lawful.{IsWorldOf}
use Rattle.order_events.specs.lawful_order.Memory.{is_store}
use Rattle.world_plan.specs.Sights.{AreInOrder}

-- a lawful world of the paths of a log that fits
pub record IsLawfulWorld {B : Type 0} (s : Setting B) (nodes : List Node) (w : World) : Type 0 where
  pub fits : Fits s.code s.log
  pub lives : (paths_of s.code s.log).dead ≡ false
  pub terms : AreTerms nodes
  pub world : IsWorld w
  pub of : IsWorldOf (paths_of s.code s.log) (found s.code s.log nodes).symbolic w
  pub lawful : order.IsLawful s.ops.buffered s.bound s.code (paths_of s.code s.log)
      (found s.code s.log nodes).symbolic (found s.code s.log nodes).nodes w

-- whether an event is a store that waits in a buffer, and so has the position of its drain
abbrev pub is_pending : Bool → Event → Bool
is_pending buffered x = buffered && is_store x.kind

module _ (code : Code) (log : Log) (w : World) where
  -- the position of a thread's event in the world
  abbrev pub place : (thread : ℕ) → Event → ℕ
  place t x = place_of (paths_of code log) w t x.step

  -- of the stores that wait in buffers, exactly those with positions before p have reached memory
  abbrev pub HaveDrained : Bool → ℕ → List Deed → Type 0
  HaveDrained buffered p h =
      (t : ℕ) (q : Walk) (x : Event) → IsThread code log t q → Contains q.events x
      → is_pending buffered x ≡ true
      → (has_drained h q.name x.step ≡ true) ↔ (place t x < p)

  -- a sleep that has begun lasts until the event that ends it
  abbrev pub SleepUntilEnded : ℕ → List Deed → Type 0
  SleepUntilEnded p h =
      (s : ℕ) (x : Placed Sleep) (q : Walk) → slice_get (all_sleeps (paths_of code log)) s ≡ Some x
      → IsThread code log x.thread q
      → x.it.step < steps_in h q.name
      → IsAsleepIn h q.name x.it ↔ ((g : ℕ) → ender_of w s ≡ Some g → p ≤ position w g)

module _ {B : Type 0} (s : Setting B) (nodes : List Node) (w : World) where
  open s use {ops, code, log}

  -- a history along the paths, up to position p: exactly the events before p took place, in order
  pub record HasGone (p : ℕ) (h : List Deed) : Type 0 where
    pub along : IsAlongPaths s.machine log h
    pub agrees : AgreesWith (found code log nodes).symbolic w.loads h
    pub going : failed_in h ≡ None
    pub did : (t : ℕ) (q : Walk) (x : Event) → IsThread code log t q → Contains q.events x
        → place code log w t x < p → x.step < steps_in h q.name
    pub only : (t : ℕ) (q : Walk) (x : Event) → IsThread code log t q → Contains q.events x
        → x.step < steps_in h q.name
        → (place code log w t x < p) ⊎ (is_pending ops.buffered x ≡ true)
    pub drained : HaveDrained code log w ops.buffered p h
    pub sleeps : SleepUntilEnded code log w p h
    pub order : AreInOrder ops.buffered (paths_of code log) w h

  -- a history up to a position, and the event of a thread at that position
  pub record EventAt : Type 0 where
    pub position : ℕ
    pub deeds : List Deed
    pub gone : HasGone position deeds
    pub thread : PathThread code log
    pub event : Event
    pub among : Contains thread.walk.events event
    pub at : place code log w thread.index event ≡ position

  -- such an event, which its thread is about to do
  pub record NextEvent : Type 0 where
    pub here : EventAt
    pub open here use *
    pub steps : steps_in here.deeds here.thread.walk.name ≡ here.event.step
