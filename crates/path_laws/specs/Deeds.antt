-- The steps of a history, as steps and events of paths.
use Rattle.std.specs.Prelude.{ℕ, List, Option, Some, None, option_map, option_and_then, nat_lt, map, if◌then◌else◌}
use Rattle.std.specs.List.{filter, last_or}
use Rattle.path_walk.specs.tc_base.Names.{Name}
use Rattle.path_walk.specs.tc_base.declared.request.Request.{Request}
use Rattle.path_walk.specs.tc_base.declared.request.Request.TheVariants.{Silent, Read, Write, Exchange, Bar, Acquire, Release, BeginWait}
use Rattle.path_walk.specs.tc_base.declared.request.Request.TheVariants.{EndWait, WakeOne, WakeAll, Start, Await, OrderStores, Finish, Fail}
use Rattle.run_follows.specs.run_history.History.{Deed, Did, same}
use Rattle.path_walk.specs.declared.event.Event.{Event}
use Rattle.path_walk.specs.declared.event.EventKind.{EventKind}
use Rattle.path_walk.specs.declared.event.EventKind.TheVariants as kind

-- the number of a deed, if it is a step of the named thread
abbrev pub number_by : Name → Deed → Option ℕ
number_by n (Did q k r took other) = if same n q then Some k else None
number_by n _ = None

-- the event kind of a request, if it is an event; a create's number is the last of the child's name
abbrev pub kind_of : Request → Option Name → Option EventKind
kind_of Silent other = None
kind_of (Read c) other = Some kind.Load
kind_of (Write c v) other = Some kind.Store
kind_of (Exchange c u) other = Some kind.Exchange
kind_of Bar other = None
kind_of (Acquire m) other = Some (kind.Lock m)
kind_of (Release m) other = Some (kind.Unlock m)
kind_of (BeginWait c m) other = Some (kind.Sleep c m)
kind_of (EndWait c m) other = Some (kind.Wake c m)
kind_of (WakeOne c) other = Some (kind.Signal c)
kind_of (WakeAll c) other = Some (kind.Broadcast c)
kind_of (Start f) child = option_map kind.Create (option_and_then (last_or None) child)
kind_of (Await k) other = Some (kind.Join k)
kind_of OrderStores other = Some kind.Fence
kind_of Finish other = Some kind.Exit
kind_of Fail other = Some kind.Fail

-- an event that was done: its step number and its kind
pub record EventDone : Type 0 where
  pub step : ℕ
  pub kind : EventKind

-- an event of a path, as its step number and its kind
abbrev pub done_as : Event → EventDone
done_as e = record { step = e.step; kind = e.kind }

-- a deed as an event of the named thread, if it is one
abbrev pub event_by : Name → Deed → Option EventDone
event_by n (Did q k r took other) =
    if same n q then option_map (λ asked. record { step = k; kind = asked }) (kind_of r other)
    else None
event_by n _ = None

-- the events of the first `steps` steps
abbrev pub events_before : ℕ → List Event → List EventDone
events_before steps events = map done_as (filter (λ e. nat_lt e.step steps) events)
