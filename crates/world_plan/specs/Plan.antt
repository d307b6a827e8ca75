-- The run of a world: its events in order, each after the steps that lead its thread to it.
use Rattle.std.specs.Prelude.{ℕ, zero, suc, ◌+◌, ◌-◌, ◌==◌, max, Bool, true, false, not, ◌&&◌, List, [], ◌∷◌, ◌++◌, fold, length, slice_get}
use Rattle.std.specs.Prelude.{Option, Some, None, option_map, option_and_then, if◌then◌else◌}
use Rattle.std.specs.List.{enumerate_from, find, filter, range_with_len}
use Rattle.std.specs.Option.{option_map_or}
use Rattle.order_events.specs.tc_base.Paths.{place_in}
use Rattle.order_events.specs.tc_base.Names.{Name, child}
use Rattle.order_events.specs.tc_base.declared.request.Request.{Request}
use Rattle.order_events.specs.tc_base.declared.request.Request.TheVariants.{WakeOne, Start}
use Rattle.order_events.specs.tc_code.Code.{Code}
use Rattle.order_events.specs.store_buffers.Pending.{Pending, Store, Bar}
use Rattle.sym_laws.specs.run_history.History.{Deed, Did, Drained, Issue, pending_issues}
use Rattle.sym_laws.specs.run_history.Locals.{asks_next}
use Rattle.sym_laws.specs.run_history.Told.{steps_in, children_in}
use Rattle.sym_laws.specs.run_follows.Follow.{taken_in}
use Rattle.order_events.specs.path_walk.Paths.{Walk, Paths}
use Rattle.order_events.specs.path_walk.declared.event.Event.{Event}
use Rattle.order_events.specs.path_walk.declared.event.EventKind.{EventKind}
use Rattle.order_events.specs.path_walk.declared.event.EventKind.TheVariants as kind
use Rattle.order_events.specs.order_formula.Worlds.{World, is_ended}
use Rattle.order_events.specs.lawful_order.Events.{Placed, all_events, all_sleeps, number_of, place_of}
use Rattle.order_events.specs.lawful_order.Memory.{is_store}

abbrev pub is_failure : EventKind → Bool
is_failure kind.Fail = true
is_failure _ = false

-- the thread whose sleep the event g ends in the world, if any
abbrev pub woken_by : Paths → World → ℕ → Option Name
woken_by paths w g =
    option_and_then (λ s. option_map (λ (q : Walk). q.name) (slice_get paths.threads s.1.thread))
    (find (λ s. is_ended w s.0 g) (enumerate_from 0 (all_sleeps paths)))

-- the event at a position, if there is one
abbrev pub event_at : Paths → World → ℕ → Option (Placed Event)
event_at paths w p = find (λ e. place_of paths w e.thread e.it.step == p) (all_events paths)

-- the position of the failing event, or one past all positions if none fails
abbrev pub end_of : Paths → World → ℕ
end_of paths w =
    option_map_or (λ e. place_of paths w e.thread e.it.step)
    (find (λ e. is_failure e.it.kind) (all_events paths))
    (fold (λ n p. max n (p + 1)) 0 w.positions)

-- the drain of an item that the thread n issued in the step k, if it is a store
abbrev pub drain_of : Name → ℕ → Pending → List Deed
drain_of n k (Store e) = Drained n k e.cell e.value ∷ []
drain_of n k Bar = []

-- whether a thread is the failing one, and the list of all threads with that one last
abbrev pub is_failing : Paths → ℕ → Bool
is_failing paths t = option_map_or (λ k. k == t) (place_in paths.failing) false

abbrev pub threads_in_turn : Paths → List ℕ
threads_in_turn paths =
    filter (λ t. not (is_failing paths t)) (range_with_len 0 (length paths.threads))
    ++ filter (is_failing paths) (range_with_len 0 (length paths.threads))

-- the drain of the store that a thread issued in a step, if it is pending
abbrev pub drains_next : Bool → List Deed → Name → (step : ℕ) → List Deed
drains_next buffered h n k =
    option_map_or (λ (i : Issue). drain_of n i.number i.what)
    (find (λ (i : Issue). i.number == k) (pending_issues buffered h n)) []

-- the other thread of a step: the child that it creates, or the thread that it wakes
abbrev pub other_of : Paths → World → List Deed → (thread : ℕ) → Name → Request → Option Name
other_of paths w h t n (Start f) = Some (child n (children_in h n + 1))
other_of paths w h t n (WakeOne c) = woken_by paths w (number_of paths t (steps_in h n))
other_of paths w h t n _ = None

module _ (buffered : Bool) (code : Code) (paths : Paths) (w : World) where
  -- the next step of a thread, if it makes a request
  abbrev pub does_next : List Deed → (thread : ℕ) → Name → List Deed
  does_next h t n =
      option_map_or
      (λ r. Did n (steps_in h n) r (taken_in buffered code h n r) (other_of paths w h t n r) ∷ [])
      (asks_next code h n) []

  -- the history after k more steps of a thread
  abbrev pub goes_on : ℕ → List Deed → (thread : ℕ) → Name → List Deed
  goes_on zero h t n = h
  goes_on (suc k) h t n = goes_on k (h ++ does_next h t n) t n

  -- the history after a thread has done its first k steps
  abbrev pub goes_to : List Deed → (thread : ℕ) → Name → ℕ → List Deed
  goes_to h t n k = goes_on (k - steps_in h n) h t n

  -- appends an event: its thread's steps up to it, and the drain of a store that waits in a buffer
  abbrev pub with_drain : List Deed → Name → Event → List Deed
  with_drain h n x = if buffered && is_store x.kind then h ++ drains_next buffered h n x.step else h

  abbrev pub with_event : List Deed → Placed Event → List Deed
  with_event h e =
      option_map_or
      (λ (q : Walk). with_drain (goes_to h e.thread q.name (e.it.step + 1)) q.name e.it)
      (slice_get paths.threads e.thread) h

  -- the history of the events at the first p positions
  abbrev pub up_to : ℕ → List Deed
  up_to zero = []
  up_to (suc p) = option_map_or (with_event (up_to p)) (event_at paths w p) (up_to p)

  -- appends the remaining steps of a thread
  abbrev pub with_rest : List Deed → (thread : ℕ) → List Deed
  with_rest h t =
      option_map_or (λ (q : Walk). goes_to h t q.name (length q.places))
      (slice_get paths.threads t) h

  -- the events before the end, and then the remaining steps of all threads
  abbrev pub plan : List Deed
  plan = fold with_rest (up_to (end_of paths w)) (threads_in_turn paths)
