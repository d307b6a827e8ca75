-- The moves of the events of a lawful world are those of its plan, position by position.
use Rattle.std.proofs.Common.{◌≡◌, ◌∙◌, ◌⊎◌, inl, inr, ℕ, zero, suc, ◌+◌, ◌-◌, ◌≤◌, ◌<◌, ◌==◌, ℤ, Bool, true, false, cond, List}
use Rattle.std.proofs.Common.{[], ◌∷◌, ◌++◌, length, replicate, Option, Some, None, refl, sym, ap, ap₂, subst, arith, append_assoc}
use Rattle.std.proofs.lemmas.List.{map-append, get_or-replicate, length-replicate}
use Rattle.std.specs.Prelude.{slice_get, option_map, option_and_then}
use Rattle.std.specs.List.{Contains, last_or}
use Rattle.std.specs.Option.{option_map_or}
use Rattle.std.proofs.lemmas.Option.{same_Some, slice_get_within}
use Rattle.store_buffers.specs.tc_base.Names.{Name}
use Rattle.store_buffers.specs.tc_base.declared.moves.Move.{Move}
use Rattle.store_buffers.specs.tc_base.declared.moves.Move.TheVariants as move
use Rattle.store_buffers.specs.tc_base.declared.request.Request.{Request}
use Rattle.store_buffers.specs.tc_base.declared.request.Request.TheVariants.{Silent, Read, Write, Exchange, Bar, Acquire, Release, BeginWait}
use Rattle.store_buffers.specs.tc_base.declared.request.Request.TheVariants.{EndWait, WakeOne, WakeAll, Start, Await, OrderStores, Finish, Fail}
use Rattle.store_buffers.specs.Pending.{Binding, form_of}
use Rattle.world_moves.specs.run_history.History.{Deed, Did, Drained}
use Rattle.world_moves.specs.run_history.Told.{steps_in, is_thread_in}
use Rattle.world_moves.specs.run_follows.Follow.{move_for, moves_for, taken_in}
use Rattle.path_walk.specs.Paths.{Walk, Paths, paths_of}
use Rattle.path_walk.specs.declared.event.Event.{Event}
use Rattle.path_walk.specs.declared.event.EventKind.{EventKind}
use Rattle.path_walk.specs.declared.event.EventKind.TheVariants as kind
use Rattle.world_moves.specs.path_laws.Setting.{Setting}
use Rattle.world_moves.specs.path_laws.Deeds.{kind_of}
use Rattle.world_moves.specs.path_laws.history.Along.{IsThread, PathThread, path_thread}
use Rattle.sym_terms.specs.declared.node.Node.{Node}
use Rattle.sym_exec.specs.Alone.{cell_by}
use Rattle.path_execution.specs.declared.execution.Execution.{Execution}
use Rattle.plan_runs.specs.sym_steps.Next.{kind_at}
use Rattle.order_formula.specs.Worlds.{World, position}
use Rattle.lawful_terms.specs.lawful_order.Events.{Placed, all_events, number_of, place_of}
use Rattle.world_moves.specs.world_plan.Going.{IsLawfulWorld, is_pending, place}
use Rattle.world_moves.specs.world_plan.Plan.{is_failure, woken_by, event_at, end_of, other_of, drains_next, goes_on, goes_to, with_drain, with_event, up_to}
use Rattle.world_moves.proofs.world_plan.Numbers.{number_is}
use Rattle.world_moves.proofs.world_plan.Places.{event_at_is}
use Rattle.plan_runs.proofs.Deeds.{steps_own, steps_drained, steps_other}
use Rattle.plan_runs.proofs.Given.{Gone, Given, Here}
use Rattle.plan_runs.proofs.Goes.{Reached, quiet_on, quiet_before, quiet_through, few_left, within, not_done, come, next_there, goes_last}
use Rattle.plan_runs.proofs.Next as next
use Rattle.plan_runs.proofs.Next.{NextIs, paths_whole}
use Rattle.plan_runs.proofs.Steps.{kind_of_event}
use Rattle.world_moves.specs.Moves as moves
use Rattle.world_moves.specs.Moves.{Made, steps_of, with_moves, runs_to, event_here, past_all, last_place, own_move, drains_of, with_number, made_to}
use Rattle.schedule_decode.specs.Decodable.{executed_with}
use Rattle.schedule_decode.proofs.Finds.{Both, Neither, find_both}
use Rattle.schedule_decode.proofs.Made.{IsMadeOf, made_on, others_stay}
use Rattle.schedule_decode.proofs.Runs.{runs_on}
use Rattle.schedule_decode.proofs.Stores.{IsStoreOf, store_of}

-- A step that is an event is done by the event's own move.
module _ (bound : Binding) (paths : Paths) (w : World) (g : ℕ) (n : Name) where
  signal_moves : (k c : ℕ) (took : ℤ) (o : Option Name) → move_for bound (Did n k (WakeOne c) took o) ≡ option_map_or (move.Wake n) o (move.Run n)
  signal_moves k c took (Some u) = refl
  signal_moves k c took None = refl

  pub event_moves : (k : ℕ) (r : Request) (took : ℤ) (other : Option Name) (asked : EventKind) → kind_of r other ≡ Some asked
      → ((c : ℕ) → r ≡ WakeOne c → other ≡ woken_by paths w g) → move_for bound (Did n k r took other) ≡ own_move paths w g n asked
  event_moves k Silent took other asked is wakes = let e : None ≡ Some asked = is in cc
  event_moves k Bar took other asked is wakes = let e : None ≡ Some asked = is in cc
  event_moves k (WakeOne c) took other asked is wakes =
      signal_moves k c took other ∙ ap (λ o. option_map_or (move.Wake n) o (move.Run n)) (wakes c refl)
      ∙ ap (own_move paths w g n) (same_Some (kind.Signal c) asked is)
  event_moves k (Read c) took other asked is wakes = ap (own_move paths w g n) (same_Some kind.Load asked is)
  event_moves k (Write c v) took other asked is wakes = ap (own_move paths w g n) (same_Some kind.Store asked is)
  event_moves k (Exchange c v) took other asked is wakes = ap (own_move paths w g n) (same_Some kind.Exchange asked is)
  event_moves k (Acquire m) took other asked is wakes = ap (own_move paths w g n) (same_Some (kind.Lock m) asked is)
  event_moves k (Release m) took other asked is wakes = ap (own_move paths w g n) (same_Some (kind.Unlock m) asked is)
  event_moves k (BeginWait c m) took other asked is wakes = ap (own_move paths w g n) (same_Some (kind.Sleep c m) asked is)
  event_moves k (EndWait c m) took other asked is wakes = ap (own_move paths w g n) (same_Some (kind.Wake c m) asked is)
  event_moves k (WakeAll c) took other asked is wakes = ap (own_move paths w g n) (same_Some (kind.Broadcast c) asked is)
  event_moves k (Start f) took other asked is wakes = by (option_and_then (last_or None) other) is
    where
      by : (number : Option ℕ) → option_map kind.Create number ≡ Some asked → move.Run n ≡ own_move paths w g n asked
      by (Some j) e = ap (own_move paths w g n) (same_Some (kind.Create j) asked e)
      by None e = let f : None ≡ Some asked = e in cc
  event_moves k (Await c) took other asked is wakes = ap (own_move paths w g n) (same_Some (kind.Join c) asked is)
  event_moves k OrderStores took other asked is wakes = ap (own_move paths w g n) (same_Some kind.Fence asked is)
  event_moves k Finish took other asked is wakes = ap (own_move paths w g n) (same_Some kind.Exit asked is)
  event_moves k Fail took other asked is wakes = ap (own_move paths w g n) (same_Some kind.Fail asked is)

module _ {B : Type 0} (setting : Setting B) (nodes more : List Node) (w : World) (l : IsLawfulWorld setting nodes w) (g : Given setting nodes w) where
  open setting use {ops, bound, code, log}

  abbrev paths : Paths
  paths = paths_of code log

  abbrev now : Execution
  now = executed_with code log nodes more

  abbrev goes : ℕ → List Deed → ℕ → Name → List Deed
  goes m h t n = goes_on ops.buffered code paths w m h t n

  -- the event at a place among all events has the position that the world gives its step
  here : (i : ℕ) (e : Placed Event) → slice_get (all_events paths) i ≡ Some e → position w (0 + i) ≡ place_of paths w e.thread e.it.step
  here i e at =
      let number = number_is paths (paths_whole setting nodes w l) i e at in
      ap (position w) (let same : 0 + i ≡ number_of paths e.thread e.it.step = omega (arith, number) in same)

  -- the event at a position, with its number
  abbrev pub At : ℕ → ℕ → Placed Event → Type 0
  At p i e = Both (λ (a : Placed Event). place_of paths w a.thread a.it.step == p) (λ (a : ℕ × Placed Event). position w a.0 == p) 0 (all_events paths) i e

  abbrev pub NoneAt : ℕ → Type 0
  NoneAt p = Neither (λ (a : Placed Event). place_of paths w a.thread a.it.step == p) (λ (a : ℕ × Placed Event). position w a.0 == p) 0 (all_events paths)

  pub at_position : (p : ℕ) → ((i : ℕ) × (e : Placed Event) × At p i e) ⊎ NoneAt p
  at_position p =
      find_both (λ (a : Placed Event). place_of paths w a.thread a.it.step == p) (λ (a : ℕ × Placed Event). position w a.0 == p) 0 (all_events paths)
      (λ i e at. ap (λ n. n == p) (here i e at))

  -- both have the same end
  pub same_end : last_place paths w ≡ end_of paths w
  same_end =
      by (find_both (λ (a : Placed Event). is_failure a.it.kind) (λ (a : ℕ × Placed Event). is_failure a.1.it.kind) 0 (all_events paths) (λ i e at. refl))
    where
      first : Option (ℕ × Placed Event) → ℕ
      first o = option_map_or (λ (e : ℕ × Placed Event). position w e.0) o (past_all paths w)

      second : Option (Placed Event) → ℕ
      second o = option_map_or (λ (e : Placed Event). place_of paths w e.thread e.it.step) o (past_all paths w)

      by : (((i : ℕ) × (e : Placed Event) × Both (λ (a : Placed Event). is_failure a.it.kind) (λ (a : ℕ × Placed Event). is_failure a.1.it.kind) 0 (all_events paths) i e)
          ⊎ Neither (λ (a : Placed Event). is_failure a.it.kind) (λ (a : ℕ × Placed Event). is_failure a.1.it.kind) 0 (all_events paths))
          → last_place paths w ≡ end_of paths w
      by (inl r) = ap first r.2.numbered ∙ here r.0 r.1 r.2.there ∙ sym (ap second r.2.plain)
      by (inr none) = ap first none.numbered ∙ sym (ap second none.plain)

  -- An event that comes.
  module _ (p : ℕ) (h : List Deed) (m : Made) (gone : Gone setting nodes w p h) (so_far : IsMadeOf bound code log h m) (t : ℕ) (q : Walk)
      (x : Event) (there : IsThread code log t q) (i : Contains q.events x) (at : place code log w t x ≡ p) where
    abbrev thread : PathThread code log
    thread = path_thread t q there

    abbrev here_now : Here setting nodes w
    here_now = record { position = p; deeds = h; gone = gone; thread = thread; event = x; among = i; at = at }

    abbrev is_there : is_thread_in h q.name ≡ true
    is_there = g.there here_now

    same_steps : steps_of m t ≡ steps_in h q.name
    same_steps = so_far.steps t q there

    abbrev left : ℕ
    left = x.step + 1 - steps_in h q.name

    abbrev upto : List Deed
    upto = goes left h t q.name

    -- a store that waits
    module _ (waits : is_pending ops.buffered x ≡ true) where
      quiet : (k : ℕ) → steps_in h q.name ≤ k → k < steps_in h q.name + left → (y : Event) → Contains q.events y → y.step ≡ k
          → is_pending ops.buffered y ≡ true
      quiet = quiet_through setting nodes w l g here_now waits

      few : steps_in h q.name + left ≤ length q.places
      few = few_left setting nodes w l g here_now waits

      reached : Reached setting nodes w l g p h q (steps_in h q.name + left) upto
      reached = quiet_on setting nodes w l g left p h gone thread is_there few quiet

      issued_moves : moves_for bound upto ≡ moves_for bound h ++ runs_to m t q.name (x.step + 1)
      issued_moves =
          runs_on setting nodes w l g left p h gone thread is_there few quiet
          ∙ ap (λ k. moves_for bound h ++ replicate (x.step + 1 - k) (move.Run q.name)) (sym same_steps)

      drain_moves : (c : ℕ) → IsStoreOf setting nodes more w l t x.step c
          → drains_of ops.buffered bound now w t q.name x.step ≡ move.Drain q.name (form_of bound c) ∷ []
      drain_moves c s =
          ap (λ o. option_map_or (λ d. move.Drain q.name (form_of bound (cell_by now.terms w.loads d)) ∷ []) o []) s.cell
          ∙ ap (λ d. move.Drain q.name (form_of bound d) ∷ []) s.number

      abbrev written : List Move
      written = runs_to m t q.name (x.step + 1) ++ drains_of ops.buffered bound now w t q.name x.step

      pub store_made : IsMadeOf bound code log (upto ++ drains_next ops.buffered upto q.name x.step) (with_moves m t (x.step + 1) written)
      store_made =
          let done : x.step < steps_in upto q.name = omega (arith, reached.steps) in
          let turn = g.turns (record { position = p; deeds = upto; gone = reached.gone; thread = thread; event = x; among = i; at = at }) waits done in
          let c = turn.0 in
          let d = Drained q.name x.step c turn.1 in
          let s = store_of setting nodes more w l p upto reached.gone t q there x.step c turn.1 turn.2.next.issued in
          let its : moves_for bound (upto ++ d ∷ []) ≡ moves_for bound h ++ written =
          map-append (move_for bound) upto (d ∷ [])
          ∙ ap₂ (λ ms ns. ms ++ ns) issued_moves (sym (drain_moves c s))
          ∙ append_assoc (moves_for bound h) (runs_to m t q.name (x.step + 1)) (drains_of ops.buffered bound now w t q.name x.step) in
          subst (λ ds. IsMadeOf bound code log (upto ++ ds) (with_moves m t (x.step + 1) written)) (sym turn.3)
          (made_on bound code log setting.log_is h (upto ++ d ∷ []) m so_far t q there (x.step + 1) written its
          (omega (arith, steps_drained upto q.name q.name x.step c turn.1, reached.steps))
          (λ n apart. steps_drained upto q.name n x.step c turn.1 ∙ others_stay ops.buffered code paths w left h t q.name n apart))

    -- any other event
    module _ (now : is_pending ops.buffered x ≡ false) where
      abbrev before : List Deed
      before = goes (x.step - steps_in h q.name) h t q.name

      low : steps_in h q.name ≤ x.step
      low = not_done setting nodes w l g here_now now

      came : Reached setting nodes w l g p h q x.step before
      came = come setting nodes w l g here_now now

      n : NextIs setting nodes w l before thread
      n = next_there setting nodes w l g here_now now

      abbrev d : Deed
      d = next.deed setting nodes w l p before came.gone thread n

      does : upto ≡ before ++ d ∷ []
      does =
          let one : x.step + 1 - steps_in h q.name ≡ suc (x.step - steps_in h q.name) = omega (arith, low) in
          ap (λ k. goes k h t q.name) one ∙ goes_last ops.buffered code paths w (x.step - steps_in h q.name) h t q.name
          ∙ ap (λ ds. before ++ ds) (next.does_it setting nodes w l p before came.gone thread n)

      led_moves : moves_for bound before ≡ moves_for bound h ++ runs_to m t q.name x.step
      led_moves =
          runs_on setting nodes w l g (x.step - steps_in h q.name) p h gone thread is_there
          (omega (arith, low, within setting nodes w l g t q x there i))
          (λ k over under. quiet_before setting nodes w l g p h gone t q x there i at k over (omega (arith, under, over, low)))
          ∙ ap (λ k. moves_for bound h ++ replicate (x.step - k) (move.Run q.name)) (sym same_steps)

      own_step : (event : ℕ) → event ≡ number_of paths t x.step → move_for bound d ≡ own_move paths w event q.name x.kind
      own_step event is =
          event_moves bound paths w event q.name (steps_in before q.name) n.request (taken_in ops.buffered code before q.name n.request)
          (next.other setting nodes w l p before came.gone thread n) x.kind
          (next.kind_is setting nodes w l p before came.gone thread n ∙ ap (kind_at q) came.steps
          ∙ kind_of_event setting nodes w l g t q x there i)
          (λ c signals.
          ap (other_of paths w before t q.name) signals
          ∙ ap (woken_by paths w) (ap (number_of paths t) came.steps ∙ sym is))

      pub step_made : (event : ℕ) → event ≡ number_of paths t x.step
          → IsMadeOf bound code log upto
          (with_moves m t (x.step + 1) (runs_to m t q.name x.step ++ own_move paths w event q.name x.kind ∷ []))
      step_made event is =
          let own = own_move paths w event q.name x.kind in
          let its : moves_for bound (before ++ d ∷ []) ≡ moves_for bound h ++ (runs_to m t q.name x.step ++ own ∷ []) =
          map-append (move_for bound) before (d ∷ [])
          ∙ ap₂ (λ ms a. ms ++ a ∷ []) led_moves (own_step event is)
          ∙ append_assoc (moves_for bound h) (runs_to m t q.name x.step) (own ∷ []) in
          let request = n.request in
          let took = taken_in ops.buffered code before q.name request in
          let other = next.other setting nodes w l p before came.gone thread n in
          let one : steps_in (before ++ d ∷ []) q.name ≡ steps_in before q.name + 1 = steps_own before q.name (steps_in before q.name) request took other in
          subst (λ ds. IsMadeOf bound code log ds (with_moves m t (x.step + 1) (runs_to m t q.name x.step ++ own ∷ []))) (sym does)
          (made_on bound code log setting.log_is h (before ++ d ∷ []) m so_far t q there (x.step + 1) (runs_to m t q.name x.step ++ own ∷ []) its
          (omega (arith, one, came.steps, low))
          (λ v apart. steps_other before q.name v (steps_in before q.name) request took other apart
          ∙ others_stay ops.buffered code paths w (x.step - steps_in h q.name) h t q.name v apart))

    -- the moves of each event are those of the plan
    pub event_made : (event : ℕ) → event ≡ number_of paths t x.step
        → IsMadeOf bound code log (with_drain ops.buffered code paths w upto q.name x)
        (moves.with_event ops.buffered bound now w m event t q x)
    event_made event is = by (is_pending ops.buffered x) refl
      where
        stored : Made
        stored =
            with_moves m t (x.step + 1) (runs_to m t q.name (x.step + 1) ++ drains_of ops.buffered bound now w t q.name x.step)

        stepped : Made
        stepped = with_moves m t (x.step + 1) (runs_to m t q.name x.step ++ own_move paths w event q.name x.kind ∷ [])

        by : (b : Bool) → is_pending ops.buffered x ≡ b
            → IsMadeOf bound code log (cond b (upto ++ drains_next ops.buffered upto q.name x.step) upto) (cond b stored stepped)
        by true waits = store_made waits
        by false now = step_made now event is

  -- up to each position before the end
  module _ (end : ℕ) (gone : (p : ℕ) → p ≤ end → Gone setting nodes w p (up_to ops.buffered code paths w p)) where
    abbrev deeds : ℕ → List Deed
    deeds p = up_to ops.buffered code paths w p

    abbrev made : ℕ → Made
    made p = made_to ops.buffered bound now w p

    pub made_up_to : (p : ℕ) → p ≤ end → IsMadeOf bound code log (deeds p) (made p)
    made_up_to zero low = record {
      moves = refl;
      threads = length-replicate (length paths.threads) 0;
      steps = λ t q there. get_or-replicate (length paths.threads) t 0 0 (slice_get_within paths.threads t q there);
    }
    made_up_to (suc p) low = by (at_position p) (made_up_to p (omega (arith, low)))
      where
        deeds_by : Option (Placed Event) → List Deed
        deeds_by o = option_map_or (with_event ops.buffered code paths w (deeds p)) o (deeds p)

        made_by : Option (ℕ × Placed Event) → Made
        made_by o = option_map_or (with_number ops.buffered bound now w (made p)) o (made p)

        walk_deeds : Placed Event → Option Walk → List Deed
        walk_deeds e o =
            option_map_or (λ (q : Walk). with_drain ops.buffered code paths w (goes_to ops.buffered code paths w (deeds p) e.thread q.name (e.it.step + 1))
            q.name e.it) o (deeds p)

        walk_made : ℕ → Placed Event → Option Walk → Made
        walk_made i e o = option_map_or (λ (q : Walk). moves.with_event ops.buffered bound now w (made p) i e.thread q e.it) o (made p)

        one : (i : ℕ) (e : Placed Event) → At p i e → IsMadeOf bound code log (deeds p) (made p)
            → IsMadeOf bound code log (with_event ops.buffered code paths w (deeds p) e)
            (with_number ops.buffered bound now w (made p) (0 + i, e))
        one i e at so_far =
            let whole = paths_whole setting nodes w l in
            let a = event_at_is paths w l.world l.of.events whole p e at.plain in
            let number = number_is paths whole i e at.there in
            subst (λ o. IsMadeOf bound code log (walk_deeds e o) (walk_made (0 + i) e o)) (sym a.1)
            (event_made p (deeds p) (made p) (gone p (omega (arith, low))) so_far e.thread a.0 e.it a.1 a.2 a.3 (0 + i)
            (let same : 0 + i ≡ number_of paths e.thread e.it.step = omega (arith, number) in same))

        by : (((i : ℕ) × (e : Placed Event) × At p i e) ⊎ NoneAt p) → IsMadeOf bound code log (deeds p) (made p)
            → IsMadeOf bound code log (deeds_by (event_at paths w p)) (made_by (event_here paths w p))
        by (inr none) so_far =
            subst (λ o. IsMadeOf bound code log (deeds_by o) (made_by (event_here paths w p))) (sym none.plain)
            (subst (λ o. IsMadeOf bound code log (deeds p) (made_by o)) (sym none.numbered) so_far)
        by (inl r) so_far =
            subst (λ o. IsMadeOf bound code log (deeds_by o) (made_by (event_here paths w p))) (sym r.2.plain)
            (subst (λ o. IsMadeOf bound code log (with_event ops.buffered code paths w (deeds p) r.1) (made_by o)) (sym r.2.numbered)
            (one r.0 r.1 r.2 so_far))
