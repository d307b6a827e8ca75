-- What the rules of a lawful order allow a thread, rule by rule.
use Rattle.std.specs.Prelude.{◌≡◌, ◌⊎◌, ℕ, suc, ◌<◌, ◌==◌, ℤ, pos, Bool, true, false, List, [], ◌∷◌, ◌++◌}
use Rattle.std.specs.Prelude.{Option, Some, None, slice_get, slice_index_or}
use Rattle.std.specs.FinSet as set
use Rattle.std.specs.List.{Contains}
use Rattle.condition_order.specs.list_laws.Lists.{is_nil}
use Rattle.condition_order.specs.tc_base.Names.{Name, child}
use Rattle.condition_order.specs.tc_base.declared.failing.Failing.TheVariants.{Deadlock}
use Rattle.condition_order.specs.tc_base.declared.request.Request.{Request}
use Rattle.condition_order.specs.store_buffers.Pending.{stores}
use Rattle.sym_steps.specs.run_history.History.{Deed, Did, Drained, pending}
use Rattle.sym_steps.specs.run_history.Locals.{asks_next}
use Rattle.sym_steps.specs.run_history.Told.{steps_in, owner_in, waiting_in, is_thread_in, has_exited_in}
use Rattle.sym_steps.specs.run_follows.Follow.{taken_in, IsNextDrain}
use Rattle.sym_steps.specs.run_follows.blocked.Stuck.{AllDrained, AllAreBlocked}
use Rattle.condition_order.specs.path_walk.Events.{acquired_mutex}
use Rattle.condition_order.specs.path_walk.Paths.{Walk, paths_of}
use Rattle.condition_order.specs.path_walk.declared.event.Event.{Event}
use Rattle.condition_order.specs.path_walk.declared.event.EventKind.{EventKind}
use Rattle.condition_order.specs.path_walk.declared.event.EventKind.TheVariants as kind
use Rattle.sym_steps.specs.path_laws.Setting.{Setting}
use Rattle.sym_steps.specs.path_laws.Deeds.{kind_of}
use Rattle.sym_steps.specs.path_laws.history.Along.{IsAlongPaths, IsThread, AllHaveDone, AllAreThere, PathThread}
use Rattle.condition_order.specs.sym_exec.Executed.{Course}
use Rattle.condition_order.specs.sym_exec.declared.symbolic.Access.{Access}
use Rattle.condition_order.specs.sym_terms.declared.node.Node.{Node}
use Rattle.sym_steps.specs.sym_laws.Valued.{found}
use Rattle.condition_order.specs.order_formula.Worlds.{World}
use Rattle.condition_order.specs.lawful_order.Events.{number_of}
use Rattle.condition_order.specs.lawful_order.Memory.{may_overtake}
use Rattle.world_plan.specs.Going.{is_pending, place, HaveDrained, SleepUntilEnded, HasGone, EventAt, NextEvent}
use Rattle.world_plan.specs.Plan.{is_failure, woken_by, other_of, drains_next}
use Rattle.world_plan.specs.Sights.{AreInOrder}

-- a step that no other thread sees: no event, or a store that waits in a buffer
abbrev pub IsQuiet : Bool → Option EventKind → Type 0
IsQuiet buffered k = (k ≡ None) ⊎ ((buffered ≡ true) × (k ≡ Some kind.Store))

module _ {B : Type 0} (setting : Setting B) (nodes : List Node) (w : World) where
  open setting use {machine, ops, bound, code, log}

  abbrev pub Gone : ℕ → List Deed → Type 0
  Gone p h = HasGone setting nodes w p h

  abbrev pub Here : Type 0
  Here = EventAt setting nodes w

  abbrev pub Next : Type 0
  Next = NextEvent setting nodes w

  abbrev pub Along : List Deed → Type 0
  Along h = IsAlongPaths machine log h

  -- the seen part of a history is in order, and so are its drains
  abbrev pub Seen : ℕ → List Deed → Type 0
  Seen p h = HaveDrained code log w ops.buffered p h × AreInOrder ops.buffered (paths_of code log) w h

  pub record Given : Type 0 where
    pub empties : (e : Next) → may_overtake e.event.kind ≡ false → is_nil (stores (pending ops.buffered e.deeds e.thread.name)) ≡ true
    pub loads : (e : Next) (r : Request) → asks_next code e.deeds e.thread.name ≡ Some r
        → (c : Course) (a : Access) (m : ℕ) → slice_get (found code log nodes).symbolic.threads e.thread.index ≡ Some c → Contains c.accesses a
        → a.step ≡ e.event.step → a.takes ≡ Some m → slice_index_or w.loads m (pos 0) ≡ taken_in ops.buffered code e.deeds e.thread.name r
    pub turns : (e : Here) → is_pending ops.buffered e.event ≡ true → e.event.step < steps_in e.deeds e.thread.name
        → (c : ℕ) × (v : ℤ) × IsNextDrain ops.buffered bound e.deeds e.thread.name e.event.step c v
        × (drains_next ops.buffered e.deeds e.thread.name e.event.step ≡ Drained e.thread.name e.event.step c v ∷ [])
    pub steps_drain : (p : ℕ) (h : List Deed) (n : Name) (k : ℕ) (r : Request) (took : ℤ) (other : Option Name) → Gone p h
        → HaveDrained code log w ops.buffered p (h ++ Did n k r took other ∷ [])
    pub quiet_seen : (p : ℕ) (h : List Deed) (t : PathThread code log) (k : ℕ) (r : Request) (took : ℤ) (other : Option Name) → Gone p h
        → IsQuiet ops.buffered (kind_of r other) → Seen p (h ++ Did t.name k r took other ∷ [])
    pub event_seen : (e : Next) (r : Request) (took : ℤ) (other : Option Name) → is_pending ops.buffered e.event ≡ false
        → kind_of r other ≡ Some e.event.kind → Seen (suc e.position) (e.deeds ++ Did e.thread.name e.event.step r took other ∷ [])
    pub drain_seen : (e : Here) (c : ℕ) (v : ℤ) → is_pending ops.buffered e.event ≡ true → e.event.step < steps_in e.deeds e.thread.name
        → Seen (suc e.position) (e.deeds ++ Drained e.thread.name e.event.step c v ∷ [])
    pub all_drain : (p : ℕ) (h : List Deed) → Gone p h
        → ((t : ℕ) (q : Walk) (x : Event) → IsThread code log t q → Contains q.events x → place code log w t x < p) → AllDrained ops.buffered h
    pub frees : (e : Next) (m : ℕ) → acquired_mutex e.event.kind ≡ Some m → owner_in e.deeds m ≡ None
    pub woken : (e : Next) (c m : ℕ) → e.event.kind ≡ kind.Wake c m → set.contains (waiting_in e.deeds c) e.thread.name ≡ false
    pub waits : (e : Next) (c : ℕ) → e.event.kind ≡ kind.Signal c → (u : Name)
        → woken_by (paths_of code log) w (number_of (paths_of code log) e.thread.index e.event.step) ≡ Some u → set.contains (waiting_in e.deeds c) u ≡ true
    pub lost : (e : Next) (c : ℕ) → e.event.kind ≡ kind.Signal c
        → woken_by (paths_of code log) w (number_of (paths_of code log) e.thread.index e.event.step) ≡ None → (set.len (waiting_in e.deeds c) == 0) ≡ true
    pub exits : (e : Next) (k : ℕ) → e.event.kind ≡ kind.Join k → has_exited_in e.deeds (child e.thread.name k) ≡ true
    pub there : (e : Here) → is_thread_in e.deeds e.thread.name ≡ true
    pub all_there : (p : ℕ) (h : List Deed) → Gone p h
        → ((t : ℕ) (q : Walk) (x : Event) → IsThread code log t q → Contains q.events x → is_failure x.kind ≡ false
        → is_pending ops.buffered x ≡ false → place code log w t x < p) → AllAreThere code log h
    pub quiet_sleeps : (p : ℕ) (h : List Deed) (t : PathThread code log) (r : Request) (took : ℤ) (other : Option Name) → Gone p h
        → ((x : Event) → Contains t.events x → x.step ≡ steps_in h t.name → is_pending ops.buffered x ≡ true)
        → Along (h ++ Did t.name (steps_in h t.name) r took other ∷ [])
        → SleepUntilEnded code log w p (h ++ Did t.name (steps_in h t.name) r took other ∷ [])
    pub event_sleeps : (e : Next) (r : Request) (took : ℤ) → is_pending ops.buffered e.event ≡ false
        → Along (e.deeds ++ Did e.thread.name (steps_in e.deeds e.thread.name) r took (other_of (paths_of code log) w e.deeds e.thread.index e.thread.name r) ∷ [])
        → SleepUntilEnded code log w (suc e.position)
        (e.deeds ++ Did e.thread.name (steps_in e.deeds e.thread.name) r took (other_of (paths_of code log) w e.deeds e.thread.index e.thread.name r) ∷ [])
    pub drain_sleeps : (e : Here) (c : ℕ) (v : ℤ) → is_pending ops.buffered e.event ≡ true → Along (e.deeds ++ Drained e.thread.name e.event.step c v ∷ [])
        → SleepUntilEnded code log w (suc e.position) (e.deeds ++ Drained e.thread.name e.event.step c v ∷ [])
    pub blocks : (p : ℕ) (h : List Deed) → log.failing ≡ Deadlock → Gone p h
        → ((t : ℕ) (q : Walk) (x : Event) → IsThread code log t q → Contains q.events x → place code log w t x < p) → AllHaveDone code log h
        → AllAreBlocked code h
