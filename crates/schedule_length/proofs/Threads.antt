-- The threads of a log that moves reproduce: their steps and events in the history.
use Rattle.std.proofs.Common.{◌≡◌, ◌∙◌, ℕ, ◌≤◌, ℤ, ◌*◌, Bool, true, List, [], ◌∷◌, length, Option, Some, None}
use Rattle.std.proofs.Common.{refl, sym, ap, subst, arith, append-nil}
use Rattle.std.specs.Prelude.{option_map, slice_get, nat_lt}
use Rattle.std.specs.FinMap as fin
use Rattle.std.specs.List.{count_by, filter, sum_by}
use Rattle.std.specs.Option.{option_map_or}
use Rattle.std.proofs.lemmas.Bool.{false≢true}
use Rattle.std.proofs.lemmas.List.{length-map}
use Rattle.std.proofs.lemmas.List.Sums.{count_by-le-length, length-filter}
use Rattle.std.proofs.lemmas.Option.{none-some, same_Some}
use Rattle.path_log.specs.run_log.Logs.{Log}
use Rattle.path_log.specs.tc_base.Paths.{Path, ThreadPath, path_under}
use Rattle.path_log.specs.tc_base.Names.{Name}
use Rattle.path_log.specs.tc_base.States.{Thread}
use Rattle.schedule_file.specs.tc_limits.declared.limits.TheConstants.{STEPS}
use Rattle.path_log.specs.tc_base.declared.moves.Move.{Move}
use Rattle.path_log.specs.tc_base.declared.request.Request.{Request}
use Rattle.path_log.specs.tc_base.declared.request.Request.TheVariants.{Silent, Write, WakeOne}
use Rattle.path_laws.specs.tc_code.Run.{Reproduces, path_of}
use Rattle.path_laws.proofs.run_laws.Names.{same_self}
use Rattle.path_laws.specs.run_history.History.{Deed, Did, Drained, history}
use Rattle.path_laws.specs.run_history.Told.{is_step_of, steps_in}
use Rattle.path_laws.proofs.run_history.of_pending.In.{In, all_in, in_at, in_left, in_split}
use Rattle.path_laws.specs.run_follows.Machine.{Machine}
use Rattle.path_laws.proofs.run_follows.Follows.{AllTold, all_told}
use Rattle.path_laws.specs.path_walk.Paths.{walk_of}
use Rattle.path_laws.specs.path_walk.declared.event.Event.{Event}
use Rattle.path_laws.specs.Deeds.{done_as, events_before}
use Rattle.path_laws.proofs.Deeds.{deeds_are_events}
use Rattle.path_laws.proofs.Logs.{place_of, reproduced_fits}
use Rattle.path_laws.proofs.Prefixes.{beginnings_on, own_under}
use Rattle.path_laws.proofs.of_events.Lists.{in_place}
use Rattle.schedule_length.specs.Lengths.{IsSmall}
use Rattle.schedule_length.proofs.Counts.{count-in, count-spread, sum-few, sum-less}
use Rattle.schedule_length.proofs.Drains.{is_long_of, long_are_events}
use Rattle.schedule_length.proofs.Moves.{is_step, is_long}

-- at most all events come before a step
few_before : (k : ℕ) (events : List Event) → length (events_before k events) ≤ length events
few_before k events =
    let all = length-map (filter (λ (e : Event). nat_lt e.step k) events) done_as in
    let some = length-filter (λ (e : Event). nat_lt e.step k) events in
    let few = count_by-le-length (λ (e : Event). nat_lt e.step k) events in
    omega (arith, all, some, few)

module _ {B : Type 0} (machine : Machine B) (log : Log) (small : IsSmall machine.code log) (moves : List Move)
    (r : Reproduces machine.ops machine.code log moves) where
  open machine use {ops, model, bound, laws, code, lawful}

  abbrev h : List Deed
  h = history ops code moves

  told : AllTold machine r.state h
  told = all_told machine moves r.state r.leads

  abbrev steps_at : Option (Thread B) → ℕ
  steps_at o = option_map_or (λ (t : Thread B). t.local.steps) o 0

  steps_told : (q : Name) → steps_at (fin.get r.state.threads q) ≡ steps_in h q
  steps_told q = told.tells.deeds.buffers.threads.steps q

  -- a thread that has done a step is one of the log
  named : (q : Name) → 1 ≤ steps_in h q → (path : Path) × (path_under q log.threads ≡ Some path)
  named q some = by (fin.get r.state.threads q) refl
    where
      by : (o : Option (Thread B)) → fin.get r.state.threads q ≡ o → (path : Path) × (path_under q log.threads ≡ Some path)
      by None none = absurd (let e = sym (ap steps_at none) ∙ steps_told q in omega (arith, some, e))
      by (Some t) here = (path_of t, sym (r.paths q) ∙ ap (option_map path_of) here)

  its_step : (q : Name) (k : ℕ) (a : Request) (v : ℤ) (o : Option Name) → In (Did q k a v o) h
      → (path : Path) × (path_under q log.threads ≡ Some path)
  its_step q k a v o i = named q (count-in (is_step_of q) (Did q k a v o) h i (same_self q q refl))

  -- the deed is counted for that thread
  counted : (of : Name → Deed → Bool) (q : Name) (d : Deed) → ((n : Name) → n ≡ q → of n d ≡ true)
      → (path : Path) × (path_under q log.threads ≡ Some path) → 1 ≤ count_by (λ (t : ThreadPath). of t.name d) log.threads
  counted of q d is there =
      let p = place_of q there.0 log.threads there.1 in
      count-in (λ (t : ThreadPath). of t.name d) p.thread log.threads (in_place p.thread log.threads p.place p.there) (is p.thread.name p.name)

  a_step : (d : Deed) → In d h → is_step d ≡ true → 1 ≤ count_by (λ (t : ThreadPath). is_step_of t.name d) log.threads
  a_step (Did q k a v o) i is = counted is_step_of q (Did q k a v o) (λ n same. same_self n q same) (its_step q k a v o i)
  a_step (Drained q k c v) i is = absurd (false≢true is)

  -- a drain is of a thread that issued its store
  a_drain : (q : Name) (k c : ℕ) (v : ℤ) → In (Drained q k c v) h → (path : Path) × (path_under q log.threads ≡ Some path)
  a_drain q k c v i =
      let at = in_split (Drained q k c v) h i in
      let issued = (told.follow at.older at.newer (Drained q k c v) at.there).1.next.issued in
      let x = Did q k (Write c v) issued.took issued.other in
      its_step q k (Write c v) issued.took issued.other
      (subst (In x) (sym at.there)
      (in_left x at.older (Drained q k c v ∷ at.newer)
      (subst (In x) (sym issued.issued) (in_at issued.before x issued.after))))

  a_long : (d : Deed) → In d h → is_long d ≡ true → 1 ≤ count_by (λ (t : ThreadPath). is_long_of t.name d) log.threads
  a_long (Did q k (WakeOne c) v o) i is =
      counted is_long_of q (Did q k (WakeOne c) v o) (λ n same. same_self n q same) (its_step q k (WakeOne c) v o i)
  a_long (Did q k Silent v o) i is = absurd (false≢true is)
  a_long (Did q k a v o) i is = absurd (false≢true is)
  a_long (Drained q k c v) i is = counted is_long_of q (Drained q k c v) (λ n same. same_self n q same) (a_drain q k c v i)

  -- a thread of the log exists, and has gone its path
  module _ (j : ℕ) (p : ThreadPath) (at : slice_get log.threads j ≡ Some p) where
    record IsThere : Type 0 where
      thread : Thread B
      here : fin.get r.state.threads p.name ≡ Some thread
      path : path_of thread ≡ p.path

    is_there : IsThere
    is_there = by (fin.get r.state.threads p.name) refl
      where
        went : option_map path_of (fin.get r.state.threads p.name) ≡ Some p.path
        went = r.paths p.name ∙ own_under log small.is_log j p at

        by : (o : Option (Thread B)) → fin.get r.state.threads p.name ≡ o → IsThere
        by None none = absurd (none-some p.path (sym (ap (option_map path_of) none) ∙ went))
        by (Some t) here = record { thread = t; here = here; path = same_Some (path_of t) p.path (sym (ap (option_map path_of) here) ∙ went) }

    few_steps : steps_in h p.name ≤ STEPS
    few_steps =
        let i = is_there in
        let few = all_in (λ (t : ThreadPath). t.path.steps ≤ STEPS) log.threads p small.steps (in_place p log.threads j at) in
        let same : steps_in h p.name ≡ p.path.steps =
        sym (steps_told p.name) ∙ ap steps_at i.here ∙ ap (λ (x : Path). x.steps) i.path in
        omega (arith, few, same)

    few_events : count_by (is_long_of p.name) h ≤ length (walk_of code log p).events
    few_events =
        let i = is_there in
        let on = beginnings_on ops code log moves [] r.state (subst (Reproduces ops code log) (sym (append-nil moves)) r) r.leads in
        let fits = reproduced_fits machine log moves r in
        let are = ap length (deeds_are_events ops code log moves r.state p i.thread lawful fits r.leads on i.here) in
        let long = long_are_events p.name ops.buffered bound code h told.follow in
        let few = few_before i.thread.local.steps (walk_of code log p).events in
        omega (arith, are, long, few)

  -- there are few steps
  pub steps_are_few : count_by is_step h ≤ length log.threads * STEPS
  steps_are_few =
      let all = count-spread (λ (t : ThreadPath). is_step_of t.name) is_step h log.threads a_step in
      let few = sum-few (λ (t : ThreadPath). steps_in h t.name) STEPS log.threads few_steps in
      omega (arith, all, few)

  -- there are at most as many signals and drains as events on the paths
  pub long_are_few : count_by is_long h ≤ sum_by (λ (t : ThreadPath). length (walk_of code log t).events) log.threads
  long_are_few =
      let all = count-spread (λ (t : ThreadPath). is_long_of t.name) is_long h log.threads a_long in
      let few = sum-less (λ (t : ThreadPath). count_by (is_long_of t.name) h) (λ (t : ThreadPath). length (walk_of code log t).events) log.threads few_events in
      omega (arith, all, few)
