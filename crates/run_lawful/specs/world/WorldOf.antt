-- The world of a history: the order of events, the values of loads, and the events that end sleeps.
use Rattle.std.specs.Prelude.{ℕ, ◌+◌, ◌==◌, Bool, false, not, ◌&&◌, Option, option_map, option_and_then, List, map, drop, slice_get}
use Rattle.std.specs.List.{find, position_or_len}
use Rattle.std.specs.Option.{option_map_or}
use Rattle.sym_events.specs.tc_base.Names.{Name}
use Rattle.sym_steps.specs.run_history.History.{Deed, Did, same}
use Rattle.sym_steps.specs.run_history.Last.{waits_by}
use Rattle.sym_events.specs.path_walk.Paths.{Walk, Paths}
use Rattle.sym_events.specs.path_walk.declared.event.Event.{Event}
use Rattle.sym_events.specs.path_walk.declared.event.Sleep.{Sleep}
use Rattle.sym_events.specs.sym_exec.Executed.{Symbolic}
use Rattle.sym_steps.specs.sym_laws.Loads.{loads_in}
use Rattle.sym_events.specs.order_formula.Worlds.{World}
use Rattle.sym_events.specs.lawful_order.Events.{Placed, all_events, all_sleeps}
use Rattle.bit_ranks.specs.Ranks.{ranks_of}
use Rattle.world_plan.specs.Sights.{sight_of}

-- whether a deed is the step k of the thread n, and the deeds after that step
abbrev pub is_step : Name → ℕ → Deed → Bool
is_step n k (Did q j r took other) = same n q && k == j
is_step n k _ = false

abbrev pub after_step : List Deed → Name → ℕ → List Deed
after_step h n k = drop (position_or_len (is_step n k) h + 1) h

-- whether a deed ends a thread's wait on a condition
abbrev pub ends_wait : ℕ → Name → Deed → Bool
ends_wait c n d = option_map_or not (waits_by c n d) false

module _ (buffered : Bool) (paths : Paths) where
  -- whether an event takes place by a deed
  abbrev pub is_shown : Placed Event → Deed → Bool
  is_shown e d =
      option_map_or
      (λ (q : Walk). option_map_or (λ s. same q.name s.thread && e.it.step == s.step)
      (sight_of buffered d) false)
      (slice_get paths.threads e.thread) false

  -- the index of the deed by which an event takes place, or the history's length if none
  abbrev pub place_in : List Deed → Placed Event → ℕ
  place_in h e = position_or_len (is_shown e) h

  -- the event that ends a sleep, if any: the first one after it that wakes its thread
  abbrev pub ender_in : List Deed → Placed Sleep → Option ℕ
  ender_in h s =
      option_and_then
      (λ (q : Walk). option_map (λ d. position_or_len (λ e. is_shown e d) (all_events paths))
      (find (ends_wait s.it.condition q.name) (after_step h q.name s.it.step)))
      (slice_get paths.threads s.thread)

  -- the world of a history; events that never take place come last, in the order of their numbers
  abbrev pub world_in : Symbolic → List Deed → World
  world_in symbolic h = record {
    positions = ranks_of (map (place_in h) (all_events paths));
    loads = loads_in symbolic h;
    enders = map (ender_in h) (all_sleeps paths);
  }
