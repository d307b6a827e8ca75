-- The moves of a world, from the paths and the values of its loads.
use Rattle.std.specs.Prelude.{ℕ, zero, suc, ◌+◌, ◌-◌, ◌==◌, max, Bool, ◌&&◌, List, [], ◌∷◌, ◌++◌, fold, length, replicate, slice_get, slice_set}
use Rattle.std.specs.Prelude.{slice_index_or, Option, if◌then◌else◌}
use Rattle.std.specs.List.{enumerate_from, find, range_with_len}
use Rattle.std.specs.Option.{option_map_or}
use Rattle.tc_base.specs.Paths.{place_in}
use Rattle.tc_base.specs.Names.{Name}
use Rattle.tc_base.specs.declared.moves.Move.{Move}
use Rattle.tc_base.specs.declared.moves.Move.TheVariants as move
use Rattle.store_buffers.specs.Pending.{Binding, form_of}
use Rattle.path_walk.specs.Paths.{Walk, Paths}
use Rattle.path_walk.specs.declared.event.Event.{Event}
use Rattle.path_walk.specs.declared.event.EventKind.{EventKind}
use Rattle.path_walk.specs.declared.event.EventKind.TheVariants as kind
use Rattle.sym_exec.specs.Alone.{cell_by}
use Rattle.path_execution.specs.declared.execution.Execution.{Execution}
use Rattle.order_formula.specs.Worlds.{World, position}
use Rattle.order_cells.specs.lawful_order.Events.{Placed, all_events}
use Rattle.order_cells.specs.lawful_order.Memory.{cell_of, is_store}
use Rattle.world_plan.specs.Plan.{is_failure, is_failing, woken_by}

-- the number of steps that each thread has done, and all moves so far
pub record Made : Type 0 where
  pub steps : List ℕ
  pub moves : List Move

abbrev pub steps_of : Made → ℕ → ℕ
steps_of m t = slice_index_or m.steps t 0

-- the moves of a thread until it has done k steps
abbrev pub runs_to : Made → (thread : ℕ) → Name → ℕ → List Move
runs_to m t n k = replicate (k - steps_of m t) (move.Run n)

-- appends moves, after which a thread has done at least k steps
abbrev pub with_moves : Made → (thread steps : ℕ) → List Move → Made
with_moves m t k more =
    record { steps = slice_set m.steps t (max (steps_of m t) k); moves = m.moves ++ more }

-- appends the remaining steps of a thread
abbrev pub with_rest : Paths → Made → (thread : ℕ) → Made
with_rest paths m t =
    option_map_or
    (λ (q : Walk). with_moves m t (length q.places) (runs_to m t q.name (length q.places)))
    (slice_get paths.threads t) m

-- appends the remaining steps of a thread, unless it is the failing one
abbrev pub with_passing : Paths → Made → (thread : ℕ) → Made
with_passing paths m t = if is_failing paths t then m else with_rest paths m t

module _ (paths : Paths) (w : World) where
  -- the event at a position with its number, if there is one
  abbrev pub event_here : ℕ → Option (ℕ × Placed Event)
  event_here p = find (λ e. position w e.0 == p) (enumerate_from 0 (all_events paths))

  -- one past all positions
  abbrev pub past_all : ℕ
  past_all = fold (λ n p. max n (p + 1)) 0 w.positions

  -- the position of the failing event, or one past all positions if none fails
  abbrev pub last_place : ℕ
  last_place =
      option_map_or (λ e. position w e.0)
      (find (λ e. is_failure e.1.it.kind) (enumerate_from 0 (all_events paths))) past_all

  -- the move of an event's own step; a signal wakes the thread whose sleep it ends, if any
  abbrev pub own_move : (event : ℕ) → Name → EventKind → Move
  own_move g n (kind.Signal c) = option_map_or (move.Wake n) (woken_by paths w g) (move.Run n)
  own_move g n _ = move.Run n

module _ (buffered : Bool) (bound : Binding) (x : Execution) (w : World) where
  -- the drain of the store in a thread's step
  abbrev pub drains_of : (thread : ℕ) → Name → (step : ℕ) → List Move
  drains_of t n k =
      option_map_or (λ c. move.Drain n (form_of bound (cell_by x.terms w.loads c)) ∷ [])
      (cell_of x.symbolic t k) []

  -- appends an event: its thread's steps up to and including it, and the drain of a buffered store
  abbrev pub with_event : Made → (number thread : ℕ) → Walk → Event → Made
  with_event m g t q e =
      if buffered && is_store e.kind
      then with_moves m t (e.step + 1)
      (runs_to m t q.name (e.step + 1) ++ drains_of t q.name e.step)
      else with_moves m t (e.step + 1)
      (runs_to m t q.name e.step ++ own_move x.paths w g q.name e.kind ∷ [])

  abbrev pub with_number : Made → ℕ × Placed Event → Made
  with_number m e =
      option_map_or (λ (q : Walk). with_event m e.0 e.1.thread q e.1.it)
      (slice_get x.paths.threads e.1.thread) m

  -- the moves for the events at the first p positions
  abbrev pub made_to : ℕ → Made
  made_to zero = record { steps = replicate (length x.paths.threads) 0; moves = [] }
  made_to (suc p) = option_map_or (with_number (made_to p)) (event_here x.paths w p) (made_to p)

  -- then the remaining steps of all threads except the failing one, and at last of that one
  abbrev pub made_passing : Made
  made_passing =
      fold (with_passing x.paths) (made_to (last_place x.paths w))
      (range_with_len 0 (length x.paths.threads))

  abbrev pub made : Made
  made = option_map_or (with_rest x.paths made_passing) (place_in x.paths.failing) made_passing

  abbrev pub moves_of : List Move
  moves_of = made.moves
