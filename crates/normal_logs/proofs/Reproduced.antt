-- Facts on a log that some moves reproduce.
use Rattle.std.proofs.Common.{◌≡◌, ◌∙◌, ℕ, zero, suc, ◌+◌, ◌<◌, ℤ, true, List, ◌∷◌, ◌++◌, length, cond, Option, Some, refl, sym, ap, subst, arith, append_assoc}
use Rattle.std.proofs.lemmas.Option.{none-some, same_Some}
use Rattle.tc_record.specs.tc_base.Names.{Name, child}
use Rattle.tc_record.specs.tc_base.declared.moves.Move.{Move}
use Rattle.tc_record.specs.tc_base.declared.request.Request.{Request}
use Rattle.tc_record.specs.tc_base.declared.request.Request.TheVariants.{Await, Finish}
use Rattle.tc_record.specs.tc_code.Run.{Reproduces}
use Rattle.least_runs.proofs.run_laws.Names.{same_self}
use Rattle.least_runs.specs.run_history.History.{Deed, Did, history}
use Rattle.least_runs.specs.run_history.Told.{is_exit_of, owner_in, steps_in, has_exited_in}
use Rattle.least_runs.proofs.run_history.of_pending.In.{In, in_split, any_in, in_mapped, from_mapped}
use Rattle.least_runs.specs.run_follows.Follow.{AllFollow, StepsAreOfThreads}
use Rattle.tc_record.specs.path_walk.Events.{join_by, joins_of}
use Rattle.tc_record.specs.path_walk.Paths.{Walk}
use Rattle.tc_record.specs.path_walk.declared.event.Event.{Event}
use Rattle.tc_record.specs.path_walk.declared.event.EventKind.{EventKind}
use Rattle.tc_record.specs.path_walk.declared.event.EventKind.TheVariants as kind
use Rattle.tc_record.specs.path_walk.declared.event.Link.{Link}
use Rattle.tc_record.specs.path_laws.Setting.{Setting}
use Rattle.tc_record.specs.path_laws.Deeds.{kind_of}
use Rattle.tc_record.specs.path_laws.events.Done.{IsOpenAfter}
use Rattle.tc_record.specs.path_laws.history.Along.{IsThread, IsNameOfThread, HasDoneAll, HistoryAlong, PathThread, path_thread}
use Rattle.tc_record.proofs.path_laws.Logs.{reproduced_alive}
use Rattle.tc_record.proofs.path_laws.of_history.Told.{RunOf, reproduced_run, up_to}
use Rattle.tc_record.proofs.path_laws.of_history.Logged.{has_done, history_again}
use Rattle.tc_record.proofs.path_laws.of_history.Walks.{IsWalk, walk_is, thread_named}
use Rattle.tc_record.proofs.path_laws.of_events.Lists.{in_contains, contains_in}
use Rattle.tc_record.proofs.path_laws.of_events.Events.{event_done, done_event, event_within}
use Rattle.tc_record.proofs.path_laws.of_events.Owners.{region_owned}
use Rattle.tc_record.proofs.path_laws.of_events.Steps.{steps_both, steps_first, step_at}
use Rattle.least_runs.proofs.Ends.{joined_exited}
use Rattle.normal_logs.specs.Ends.{EndsWith, HoldsAtEnd, IsJoined, Acts}
use Rattle.normal_logs.specs.Normal.{FitTogether}
use Rattle.normal_logs.proofs.Deeds.{await_is, exits, exit_is_last}

abbrev link : ℕ → ℕ → Link
link step c = record { step = step; child = c }

-- the event of a join
join_of : (step : ℕ) (k : EventKind) (l : Link) → join_by step k ≡ Some l → k ≡ kind.Join l.child
join_of step (kind.Join c) l e = ap (λ (x : Link). kind.Join x.child) (same_Some (link step c) l e)
join_of step kind.Load l e = absurd (none-some l e)
join_of step k l e = absurd (none-some l e)

module _ {B : Type 0} (setting : Setting B) (moves : List Move) (again : Reproduces setting.ops setting.code setting.log moves) where
  open setting use {machine, ops, bound, code, log, log_is as is}

  abbrev pub h : List Deed
  h = history ops code moves

  abbrev pub run : RunOf machine log h
  run = reproduced_run machine log moves again

  abbrev all : HistoryAlong setting
  all = history_again setting moves again

  pub follow : AllFollow ops.buffered bound code h
  follow = run.told.follow

  pub threads : StepsAreOfThreads h
  threads = run.told.threads

  -- a thread that does a step is one of the paths
  pub step_named : (older newer : List Deed) (n : Name) (k : ℕ) (r : Request) (v : ℤ) (o : Option Name) → h ≡ older ++ Did n k r v o ∷ newer
      → IsNameOfThread code log n
  step_named older newer n k r v o at =
      thread_named setting (up_to setting all older (Did n k r v o ∷ newer) at) n (threads older newer n k r v o at).there

  -- a thread that does a step in a later part of the history has a step on its path
  pub acts : (older newer : List Deed) (n : Name) → h ≡ older ++ newer → 0 < steps_in newer n → Acts code log n
  acts older newer n at some =
      let s = step_at newer n 0 some in
      let deed = Did n s.number s.request s.took s.other in
      let whole : h ≡ (older ++ s.older) ++ deed ∷ s.newer = at ∙ ap (λ g. older ++ g) s.there ∙ sym (append_assoc older s.older (deed ∷ s.newer)) in
      let t = step_named (older ++ s.older) s.newer n s.number s.request s.took s.other whole in
      let count : steps_in h n ≡ steps_in older n + steps_in newer n = ap (λ g. steps_in g n) at ∙ steps_both older newer n in
      let every : steps_in h t.walk.name ≡ length t.walk.places = has_done setting moves again t.thread in
      let own : steps_in h t.walk.name ≡ steps_in h n = ap (steps_in h) t.name_is in
      record { place = t.index; walk = t.walk; there = t.there; name = t.name_is; steps = omega (arith, some, count, every, own) }

  module _ (thread : PathThread code log) where
    open thread use {walk as w}

    pub done : HasDoneAll h w
    done = has_done setting moves again thread

    pub walk : IsWalk code log w
    walk = walk_is code log is all.fits thread

    -- a step after which the thread does nothing is the last of its path
    pub last_number : (older newer : List Deed) (k : ℕ) (r : Request) (v : ℤ) (o : Option Name) → h ≡ older ++ Did w.name k r v o ∷ newer
        → steps_in newer w.name ≡ 0 → k + 1 ≡ length w.places
    last_number older newer k r v o at none =
        let deed = Did w.name k r v o in
        let number : k ≡ steps_in older w.name = (follow older newer deed at).1.number in
        let count : steps_in h w.name ≡ steps_in older w.name + (1 + steps_in newer w.name) =
        ap (λ g. steps_in g w.name) at ∙ steps_both older (deed ∷ newer) w.name
        ∙ ap (λ m. steps_in older w.name + m)
        (steps_first deed newer w.name ∙ ap (λ b. cond b 1 0 + steps_in newer w.name) (same_self w.name w.name refl)) in
        let every : steps_in h w.name ≡ length w.places = done in
        omega (arith, number, count, none, every)

    -- the path ends with the event of that step
    pub ends_with : (older newer : List Deed) (k : ℕ) (r : Request) (v : ℤ) (o : Option Name) (asked : EventKind) → h ≡ older ++ Did w.name k r v o ∷ newer
        → k + 1 ≡ length w.places → kind_of r o ≡ Some asked → EndsWith w asked
    ends_with older newer k r v o asked at last asks =
        let x =
        done_event setting all thread k asked
        (record { older = older; newer = newer; request = r; took = v; other = o; there = at; asks = asks }) in
        record { event = x.0; there = contains_in x.0 w.events x.1; asks = x.3; last = ap (λ i. i + 1) x.2 ∙ last }

    -- a thread that has exited ends with its exit
    pub ends_with_exit : has_exited_in h w.name ≡ true → EndsWith w kind.Exit
    ends_with_exit gone =
        let p = any_in (is_exit_of w.name) h gone in
        let e = exits w.name p.one p.passes in
        let s = in_split p.one h p.there in
        let at : h ≡ s.older ++ Did w.name e.number Finish e.took e.other ∷ s.newer = s.there ∙ ap (λ d. s.older ++ d ∷ s.newer) e.is in
        let none : steps_in s.newer w.name ≡ 0 =
        nothing (steps_in s.newer w.name) (exit_is_last s.older s.newer w.name e.number e.took e.other (subst StepsAreOfThreads at threads)) in
        ends_with s.older s.newer e.number Finish e.took e.other kind.Exit at
        (last_number s.older s.newer e.number Finish e.took e.other at none) refl
      where
        nothing : (n : ℕ) → (0 < n → ⊥) → n ≡ 0
        nothing zero h = refl
        nothing (suc n) h = absurd (h (omega arith))

    -- the joins of a path are those of its events
    joins_are : w.joins ≡ joins_of w.events
    joins_are = subst (λ (x : Walk). x.joins ≡ joins_of x.events) (sym walk.is) refl

    -- each join of the path was done
    pub joins_done : (l : Link) → In l w.joins → has_exited_in h (child w.name l.child) ≡ true
    joins_done l i =
        let from = from_mapped (λ (e : Event). join_by e.step e.kind) l w.events (subst (In l) joins_are i) in
        let asks = join_of from.of.step from.of.kind l from.gives in
        let within = event_within code log w walk from.of from.there in
        let every : steps_in h w.name ≡ length w.places = done in
        let d = event_done setting all thread from.of from.there (omega (arith, within, every)) in
        let request = await_is d.request d.other l.child (d.asks ∙ ap (λ k. Some k) asks) in
        let at : h ≡ d.older ++ Did w.name from.of.step (Await l.child) d.took d.other ∷ d.newer =
        d.there ∙ ap (λ r. d.older ++ Did w.name from.of.step r d.took d.other ∷ d.newer) request in
        ap (λ g. has_exited_in g (child w.name l.child)) at
        ∙ joined_exited ops.buffered bound code d.older d.newer w.name from.of.step l.child d.took d.other
        (subst (AllFollow ops.buffered bound code) at follow)

    -- each join that was done is on the path
    pub join_there : (older newer : List Deed) (k c : ℕ) (v : ℤ) (o : Option Name) → h ≡ older ++ Did w.name k (Await c) v o ∷ newer
        → (l : Link) × In l w.joins × (l.child ≡ c)
    join_there older newer k c v o at =
        let x =
        done_event setting all thread k (kind.Join c)
        (record { older = older; newer = newer; request = Await c; took = v; other = o; there = at; asks = refl }) in
        let l = link x.0.step c in
        let gives : join_by x.0.step x.0.kind ≡ Some l = ap (join_by x.0.step) x.3 in
        (l, subst (In l) (sym joins_are) (in_mapped (λ (e : Event). join_by e.step e.kind) x.0 l w.events x.1 gives), refl)

  pub joined_ends : (j : ℕ) (w : Walk) → IsThread code log j w → IsJoined code log w.name → EndsWith w kind.Exit
  joined_ends j w there joined =
      let gone = joins_done (path_thread joined.place joined.walk joined.there) joined.join (in_contains joined.join joined.walk.joins joined.joins) in
      ends_with_exit (path_thread j w there) (ap (has_exited_in h) joined.name ∙ gone)

  -- a thread that holds a mutex at the end of its path owns it
  pub end_owned : (j m : ℕ) (w : Walk) → IsThread code log j w → HoldsAtEnd w m → owner_in h m ≡ Some w.name
  end_owned j m w there holds =
      (region_owned setting all (path_thread j w there) m).1
      (holds.region, holds.there, holds.of, subst (λ n. IsOpenAfter n holds.region) (sym (done (path_thread j w there))) holds.lasts)

  pub fit_together : FitTogether code log
  fit_together = record {
    is_log = is;
    fits = all.fits;
    possible = reproduced_alive machine log moves again;
    joined = joined_ends;
    apart = λ i j m v w here there first second.
        same_Some v.name w.name (sym (end_owned i m v here first) ∙ end_owned j m w there second);
  }
