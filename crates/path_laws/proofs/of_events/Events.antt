-- The events of a path are done by the steps of its thread.
use Rattle.std.proofs.Common.{◌≡◌, ◌∙◌, ℕ, ◌<◌, ℤ, Bool, true, false, cond, List, ◌∷◌, ◌++◌, length, map}
use Rattle.std.proofs.Common.{Option, Some, None, refl, sym, ap, ap₂, subst, arith}
use Rattle.std.specs.Prelude.{option_map, nat_lt}
use Rattle.std.specs.FinMap as fin
use Rattle.std.specs.List.{filter_map}
use Rattle.std.proofs.lemmas.Bool.{lt-ltb}
use Rattle.std.proofs.lemmas.List.{length-map}
use Rattle.std.proofs.lemmas.Option.{none-some, same_Some, slice_get_within}
use Rattle.path_walk.specs.run_log.Logs.{Log}
use Rattle.path_walk.specs.tc_base.Names.{Name}
use Rattle.path_walk.specs.tc_base.States.{Thread}
use Rattle.path_walk.specs.tc_base.declared.request.Request.{Request}
use Rattle.path_walk.specs.tc_code.Code.{Code}
use Rattle.run_follows.proofs.run_laws.Names.{is_same, same_self}
use Rattle.run_follows.specs.run_history.History.{Deed, Did, Drained, same}
use Rattle.run_follows.specs.run_history.Told.{is_thread_in, steps_in}
use Rattle.run_follows.proofs.run_history.Threads.{none_done}
use Rattle.run_follows.proofs.run_history.of_pending.In.{In, in_at, in_split, in_filter, from_filter, in_mapped, from_mapped}
use Rattle.path_walk.specs.Fits.{fails_in}
use Rattle.path_walk.specs.Marks.{marks_at_start}
use Rattle.path_walk.specs.Paths.{Walk}
use Rattle.path_walk.specs.Steps.{step_at, steps_at}
use Rattle.path_walk.specs.declared.event.Event.{Event}
use Rattle.path_walk.specs.declared.event.EventKind.{EventKind}
use Rattle.path_laws.specs.Setting.{Setting}
use Rattle.path_laws.specs.Deeds.{kind_of, EventDone, done_as, event_by, events_before}
use Rattle.path_laws.proofs.Deeds.{deeds_are_events}
use Rattle.path_laws.specs.history.Along.{HasDoneAll, HistoryAlong, PathThread}
use Rattle.path_laws.proofs.of_history.Told.{RunOf, thread_of, steps_of, its_run}
use Rattle.path_laws.proofs.of_history.Walks.{IsWalk, walk_is}
use Rattle.path_laws.specs.events.Done.{IsDoneIn}
use Rattle.path_laws.proofs.of_events.Lists.{in_map, from_map, each_of, all_pass}
use Rattle.path_laws.proofs.of_events.Marked.{IsEventAt, event_is_at}
use Rattle.path_laws.proofs.of_events.Steps.{step_is}

abbrev the_done : EventDone → EventDone
the_done e = e

-- a deed is the step of a thread with this number, and has this kind
record IsDeedOf (d : Deed) (n : Name) (k : ℕ) (asked : EventKind) : Type 0 where
  request : Request
  took : ℤ
  other : Option Name
  is : d ≡ Did n k request took other
  asks : kind_of request other ≡ Some asked

-- a deed that gives an event is the step of that event
deed_tells : (n : Name) (d : Deed) (e : EventDone) → event_by n d ≡ Some e → IsDeedOf d n e.step e.kind
deed_tells n (Drained q k c v) e told = absurd (none-some e told)
deed_tells n (Did q k r v o) e told = by (same n q) refl told
  where
    asked_by : (x : Option EventKind) → kind_of r o ≡ x → same n q ≡ true
        → option_map (λ asked. the_done (record { step = k; kind = asked })) x ≡ Some e → IsDeedOf (Did q k r v o) n e.step e.kind
    asked_by None h s m = absurd (none-some e m)
    asked_by (Some asked) h s m =
        let one : the_done (record { step = k; kind = asked }) ≡ e = same_Some (the_done (record { step = k; kind = asked })) e m in
        record {
          request = r;
          took = v;
          other = o;
          is = ap (λ p. Did p k r v o) (sym (is_same n q s)) ∙ ap (λ (x : EventDone). Did n x.step r v o) one;
          asks = h ∙ ap (λ (x : EventDone). Some x.kind) one;
        }

    by : (b : Bool) → same n q ≡ b → cond b (option_map (λ asked. the_done (record { step = k; kind = asked })) (kind_of r o)) None ≡ Some e
        → IsDeedOf (Did q k r v o) n e.step e.kind
    by true s m = asked_by (kind_of r o) refl s m
    by false s m = absurd (none-some e m)

-- the event of a deed in a history is done in that history
done_by : (h : List Deed) (d : Deed) (n : Name) (k : ℕ) (asked : EventKind) → In d h → IsDeedOf d n k asked → IsDoneIn h n k asked
done_by h d n k asked i e =
    let s = in_split d h i in
    record {
      older = s.older;
      newer = s.newer;
      request = e.request;
      took = e.took;
      other = e.other;
      there = s.there ∙ ap (λ x. s.older ++ x ∷ s.newer) e.is;
      asks = e.asks;
    }

module _ (code : Code) (log : Log) (w : Walk) (k : IsWalk code log w) where
  -- the events of a thread are those of its steps
  abbrev pub AtStep : Event → Type 0
  AtStep x = IsEventAt (fails_in log w.name) 0 (marks_at_start code w.function) (steps_at code w.function w.places) x

  pub at_step : (x : Event) → In x w.events → AtStep x
  at_step x i =
      event_is_at code w.function (fails_in log w.name) 0 (marks_at_start code w.function) (steps_at code w.function w.places) x
      (subst (In x) k.events i)

  pub event_within : (x : Event) → In x w.events → x.step < length w.places
  event_within x i =
      let e = at_step x i in
      let within = slice_get_within (steps_at code w.function w.places) e.place e.step e.there in
      omega (arith, within, e.number, length-map w.places (step_at code w.function))

module _ {B : Type 0} (setting : Setting B) (history : HistoryAlong setting) (thread : PathThread setting.code setting.log) where
  open setting use {machine, ops, code, lawful, log, log_is as is}
  open history use {deeds as h, fits}
  open thread use {walk as w}

  abbrev r : RunOf machine log h
  r = its_run setting history

  abbrev k : IsWalk code log w
  k = walk_is code log is fits thread

  -- a thread that has done a step exists
  pub there_by_step : 0 < steps_in h w.name → (t : Thread B) × (fin.get r.state.threads w.name ≡ Some t)
  there_by_step some = by (fin.get r.state.threads w.name) refl
    where
      by : (o : Option (Thread B)) → fin.get r.state.threads w.name ≡ o → (t : Thread B) × (fin.get r.state.threads w.name ≡ Some t)
      by None none = absurd (omega (arith, some, none_done ops code r.state h w.name r.told.tells.deeds.buffers.threads none))
      by (Some t) here = (t, here)

  -- the events of a thread so far
  told_events : (t : Thread B) → fin.get r.state.threads w.name ≡ Some t → filter_map (event_by w.name) h ≡ events_before (steps_in h w.name) w.events
  told_events t here =
      let p = k.thread in
      let name : w.name ≡ p.name = ap (λ (x : Walk). x.name) k.is in
      ap₂ (λ n g. filter_map (event_by n) g) name (sym r.is)
      ∙ deeds_are_events ops code log r.moves r.state p t lawful fits r.leads r.on (ap (fin.get r.state.threads) (sym name) ∙ here)
      ∙ ap₂ (λ n (x : Walk). events_before n x.events) (steps_of machine log h r w.name t here) (sym k.is)

  -- an event of a step that is done
  pub event_done : (x : Event) → In x w.events → x.step < steps_in h w.name → IsDoneIn h w.name x.step x.kind
  event_done x i before =
      let t = there_by_step (omega (arith, before)) in
      let kept = in_filter (λ (e : Event). nat_lt e.step (steps_in h w.name)) x w.events i (lt-ltb x.step (steps_in h w.name) before) in
      let told = subst (In (done_as x)) (sym (told_events t.0 t.1)) (in_map done_as x _ kept) in
      let from = from_mapped (event_by w.name) (done_as x) h told in
      done_by h from.of w.name x.step x.kind from.there (deed_tells w.name from.of (done_as x) from.gives)

  -- a step that has a kind is an event
  pub done_event : (n : ℕ) (asked : EventKind) → IsDoneIn h w.name n asked
      → (x : Event) × In x w.events × (x.step ≡ n) × (x.kind ≡ asked) × (n < steps_in h w.name)
  done_event n asked d =
      let deed = Did w.name n d.request d.took d.other in
      let s = step_is setting history thread d.older d.newer n d.request d.took d.other d.there in
      let t = there_by_step (omega (arith, s.done)) in
      let tells : event_by w.name deed ≡ Some (the_done (record { step = n; kind = asked })) =
      ap (λ b. cond b (option_map (λ asked. the_done (record { step = n; kind = asked })) (kind_of d.request d.other)) None) (same_self w.name w.name refl)
      ∙ ap (option_map (λ asked. the_done (record { step = n; kind = asked }))) d.asks in
      let told = in_mapped (event_by w.name) deed (the_done (record { step = n; kind = asked })) h
      (subst (In deed) (sym d.there) (in_at d.older deed d.newer)) tells in
      let from = from_map done_as (the_done (record { step = n; kind = asked })) _ (subst (In (the_done (record { step = n; kind = asked }))) (told_events t.0 t.1) told) in
      let kept = from_filter (λ (e : Event). nat_lt e.step (steps_in h w.name)) from.0 w.events from.1 in
      (from.0, kept.0, ap (λ (e : EventDone). e.step) from.2, ap (λ (e : EventDone). e.kind) from.2, s.done)

  -- if all steps are done, all events are
  pub whole_events : is_thread_in h w.name ≡ true → HasDoneAll h w → filter_map (event_by w.name) h ≡ map done_as w.events
  whole_events is_there done =
      let t = thread_of machine log h r w.name is_there in
      told_events t.0 t.1
      ∙ ap (map done_as)
      (all_pass (λ (e : Event). nat_lt e.step (steps_in h w.name)) w.events
      (each_of (λ (e : Event). nat_lt e.step (steps_in h w.name) ≡ true) w.events (λ x i.
      let within = event_within code log w k x i in
      lt-ltb x.step (steps_in h w.name) (omega (arith, within, done)))))
