-- The sleeps and the events of paths determine who waits and who has exited.
use Rattle.std.proofs.Common.{◌≡◌, ◌↔◌, ◌∙◌, inl, inr, ℕ, ◌+◌, ◌<◌, ◌==◌, ◌&&◌, ◌||◌, ℤ, Bool, true, false, not, cond, List, [], ◌∷◌, ◌++◌}
use Rattle.std.proofs.Common.{Option, Some, None, refl, sym, ap, ap₂, subst, arith, append_assoc, true≢false}
use Rattle.std.specs.Prelude.{is_none, option_map, option_and_then}
use Rattle.std.specs.FinSet as set
use Rattle.std.specs.List.{Contains, filter_map, last_or}
use Rattle.std.proofs.lemmas.Bool.{cases_lt, and_parts, eqb-true, eq-eqb}
use Rattle.std.proofs.lemmas.List.Elements.{filter_map-append}
use Rattle.std.proofs.lemmas.Option.{none-some, same_Some}
use Rattle.path_walk.specs.list_laws.Lists.{is_nil}
use Rattle.path_walk.specs.tc_base.Names.{Name}
use Rattle.path_walk.specs.tc_base.States.{Local, Thread}
use Rattle.path_walk.specs.tc_base.declared.request.Request.{Request}
use Rattle.path_walk.specs.tc_base.declared.request.Request.TheVariants.{Silent, BeginWait, EndWait, WakeOne, WakeAll, Start, Finish}
use Rattle.path_walk.specs.tc_code.Step.{request, instr_of, drains_first}
use Rattle.run_follows.specs.store_buffers.Pending.{stores}
use Rattle.run_follows.proofs.run_laws.Names.{is_same, same_self}
use Rattle.run_follows.proofs.run_laws.Waiters.{waiters_are_at_wake}
use Rattle.run_follows.specs.run_history.History.{Deed, Did, same, pending}
use Rattle.run_follows.specs.run_history.Last.{IsLast, waits_by}
use Rattle.run_follows.specs.run_history.Locals.{asks_next}
use Rattle.run_follows.specs.run_history.Told.{owner_in, waiting_in, steps_in, is_exit_of, has_exited_in}
use Rattle.run_follows.proofs.run_history.Last.{waiters_are_last}
use Rattle.run_follows.proofs.of_deeds.Cells.{next_within}
use Rattle.run_follows.specs.Follow.{MayFollow, may_do_in}
use Rattle.run_follows.proofs.run_history.of_pending.In.{In, in_at, in_split, any_in, in_any}
use Rattle.path_walk.specs.declared.event.Event.{Event}
use Rattle.path_walk.specs.declared.event.EventKind.TheVariants as kind
use Rattle.path_walk.specs.declared.event.Sleep.{Sleep}
use Rattle.path_laws.specs.Setting.{Setting}
use Rattle.path_laws.specs.Deeds.{kind_of}
use Rattle.path_laws.specs.history.Along.{IsNameOfThread, HistoryAlong, PathThread}
use Rattle.path_laws.proofs.of_history.Told.{reached, its_run, up_to}
use Rattle.path_laws.proofs.of_history.Walks.{IsWalk, walk_is, thread_named}
use Rattle.path_laws.specs.events.Done.{IsDoneIn, IsAsleepIn}
use Rattle.path_laws.proofs.of_events.Lists.{in_contains, contains_in}
use Rattle.path_laws.proofs.of_events.Events.{event_done, done_event}
use Rattle.path_laws.proofs.of_events.Sleeps.{sleep_of_event}
use Rattle.path_laws.proofs.of_events.Steps.{steps_both, steps_first, step_at}

-- a deed begins a wait of a thread
record BeginsWait (c : ℕ) (n : Name) (d : Deed) : Type 0 where
  number : ℕ
  mutex : ℕ
  took : ℤ
  other : Option Name
  is : d ≡ Did n number (BeginWait c mutex) took other

begun_so : (b : Bool) → cond b (Some false) None ≡ Some true → ⊥
begun_so true e = true≢false (sym (same_Some false true e))
begun_so false e = none-some true e

begins_wait : (c : ℕ) (n : Name) (d : Deed) → waits_by c n d ≡ Some true → BeginsWait c n d
begins_wait c n (Did q k (BeginWait d m) took other) e = by (d == c && same n q) refl e
  where
    by : (b : Bool) → (d == c && same n q) ≡ b → cond b (Some true) None ≡ Some true → BeginsWait c n (Did q k (BeginWait d m) took other)
    by true t e =
        let both = and_parts (d == c) (same n q) t in
        record {
          number = k;
          mutex = m;
          took = took;
          other = other;
          is = ap₂ (λ p i. Did p k (BeginWait i m) took other) (sym (is_same n q both.1)) (eqb-true d c both.0);
        }
    by false t e = absurd (none-some true e)
begins_wait c n (Did q k (WakeOne d) took (Some u)) e = absurd (begun_so _ e)
begins_wait c n (Did q k (WakeOne d) took None) e = absurd (none-some true e)
begins_wait c n (Did q k (WakeAll d) took other) e = absurd (begun_so _ e)
begins_wait c n (Did q k Silent took other) e = absurd (none-some true e)
begins_wait c n d e = absurd (none-some true e)

-- the deed that begins a sleep still going is the last that begins or ends a wait of the thread
last_wait : (h older newer : List Deed) (n : Name) (k c m : ℕ) (took : ℤ) (other : Option Name) → h ≡ older ++ Did n k (BeginWait c m) took other ∷ newer
    → filter_map (waits_by c n) newer ≡ [] → IsLast (waits_by c n) h true
last_wait h older newer n k c m took other there lasts = record {
  older = older;
  deed = Did n k (BeginWait c m) took other;
  newer = newer;
  there = there;
  gives = ap₂ (λ a b. cond (a && b) (Some true) None) (eq-eqb c c refl) (same_self n n refl);
  last = lasts;
}

-- if two lists together are empty, the first is empty
first_nil : {X : Type 0} (xs ys : List X) → xs ++ ys ≡ [] → xs ≡ []
first_nil [] ys e = refl
first_nil (x ∷ xs) ys e = absurd cc

-- a request that is an exit
exit_is : (r : Request) (other : Option Name) → kind_of r other ≡ Some kind.Exit → r ≡ Finish
exit_is Finish other e = refl
exit_is (Start f) other e = absurd (by (option_and_then (last_or None) other) e)
  where
    by : (o : Option ℕ) → option_map kind.Create o ≡ Some kind.Exit → ⊥
    by None e = none-some kind.Exit e
    by (Some k) e = cc
exit_is r other e = absurd cc

-- a deed that is an exit
record IsExit (n : Name) (d : Deed) : Type 0 where
  number : ℕ
  took : ℤ
  other : Option Name
  is : d ≡ Did n number Finish took other

exit_of : (n : Name) (d : Deed) → is_exit_of n d ≡ true → IsExit n d
exit_of n (Did q k Finish took other) e =
    record { number = k; took = took; other = other; is = ap (λ p. Did p k Finish took other) (sym (is_same n q e)) }
exit_of n d e = absurd (true≢false (sym e))

module _ {B : Type 0} (setting : Setting B) (history : HistoryAlong setting) where
  open setting use {machine, ops, bound, code, lawful, log}
  open history use {deeds as h}

  -- a thread that waits isn't let go on
  asleep_rests : (n : Name) (c k : ℕ) (r : Request) (took : ℤ) (other : Option Name) → c < code.conditions
      → set.contains (waiting_in h c) n ≡ true → MayFollow ops.buffered bound code h (Did n k r took other) → ⊥
  asleep_rests n c k r took other within waits may =
      let a = its_run setting history in
      let s = a.state in
      let at = waiters_are_at_wake ops code s lawful (reached machine log h a) n c
      (ap (λ ns. set.contains ns n) (a.told.tells.waiters.waiters c within) ∙ waits) in
      let asks : asks_next code h n ≡ Some (EndWait c at.mutex) =
      ap (option_and_then (λ (l : Local). option_map (request l) (instr_of code l)))
      (a.told.tells.locals n ∙ ap (option_map (λ (t : Thread B). t.local)) at.there)
      ∙ ap (option_map (request at.thread.local)) at.at in
      let same : r ≡ EndWait c at.mutex = same_Some r _ (sym may.asks ∙ asks) in
      let allowed : may_do_in ops.buffered h n (EndWait c at.mutex) other ≡ true = ap (λ x. may_do_in ops.buffered h n x other) (sym same) ∙ may.may in
      let met = and_parts (not (drains_first (EndWait c at.mutex)) || is_nil (stores (pending ops.buffered h n))) _ allowed in
      let free = and_parts (not (set.contains (waiting_in h c) n)) (is_none (owner_in h at.mutex)) met.1 in
      true≢false (sym free.0 ∙ ap not waits)

module _ {B : Type 0} (setting : Setting B) (history : HistoryAlong setting) where
  open setting use {machine, code, log, log_is as is}
  open history use {deeds as h, fits, along}

  -- so a thread that sleeps has done no step since
  pub sleeps_still : (n : Name) (s : Sleep) → IsAsleepIn h n s → steps_in h n ≡ s.step + 1
  sleeps_still n s a =
      let c = s.condition in
      let d = Did n s.step (BeginWait c s.mutex) a.took a.other in
      let f = (along.follow a.older a.newer d a.there).1 in
      let count : steps_in h n ≡ steps_in a.older n + (1 + steps_in a.newer n) =
      ap (λ g. steps_in g n) a.there
      ∙ steps_both a.older (d ∷ a.newer) n
      ∙ ap (λ m. steps_in a.older n + m) (steps_first d a.newer n ∙ ap (λ b. cond b 1 0 + steps_in a.newer n) (same_self n n refl)) in
      elim (cases_lt 0 (steps_in a.newer n)) [
        | inr none ↦ omega (arith, count, f.number, none)
        | inl some ↦
            let t = step_at a.newer n 0 some in
            let e = Did n t.number t.request t.took t.other in
            let g = a.older ++ d ∷ t.older in
            let there : h ≡ g ++ e ∷ t.newer =
            a.there ∙ ap (λ xs. a.older ++ d ∷ xs) t.there ∙ sym (append_assoc a.older (d ∷ t.older) (e ∷ t.newer)) in
            let none : filter_map (waits_by c n) t.older ≡ [] =
            first_nil (filter_map (waits_by c n) t.older) (filter_map (waits_by c n) (e ∷ t.newer))
            (sym (filter_map-append (waits_by c n) t.older (e ∷ t.newer)) ∙ ap (filter_map (waits_by c n)) (sym t.there) ∙ a.lasts) in
            let before = up_to setting history a.older (d ∷ a.newer) a.there in
            let within = next_within machine a.older n (BeginWait c s.mutex) before.along.follow f.asks in
            absurd (asleep_rests setting (up_to setting history g (e ∷ t.newer) there) n c t.number t.request t.took t.other within.0
            ((waiters_are_last g c n).1 (last_wait g a.older t.older n s.step c s.mutex a.took a.other refl none))
            (along.follow g t.newer e there).1)
      ]

  -- who waits is a thread of the paths
  pub waiter_named : (c : ℕ) (n : Name) → set.contains (waiting_in h c) n ≡ true → IsNameOfThread code log n
  waiter_named c n waits =
      let last = (waiters_are_last h c n).0 waits in
      let b = begins_wait c n last.deed last.gives in
      let d = Did n b.number (BeginWait c b.mutex) b.took b.other in
      let at = last.there ∙ ap (λ x. last.older ++ x ∷ last.newer) b.is in
      thread_named setting (up_to setting history last.older (d ∷ last.newer) at) n
      ((its_run setting history).told.threads last.older last.newer n b.number (BeginWait c b.mutex) b.took b.other at).there

  module _ (thread : PathThread code log) where
    open thread use {walk as w}

    abbrev k : IsWalk code log w
    k = walk_is code log is fits thread

    abbrev HasSleep : ℕ → Type 0
    HasSleep c = (s : Sleep) × Contains w.sleeps s × (s.condition ≡ c) × IsAsleepIn h w.name s

    -- a deed that begins a wait begins a sleep of the path
    to_sleep : (c : ℕ) → set.contains (waiting_in h c) w.name ≡ true → HasSleep c
    to_sleep c waits =
        let n = w.name in
        let last = (waiters_are_last h c n).0 waits in
        let b = begins_wait c n last.deed last.gives in
        let at = last.there ∙ ap (λ x. last.older ++ x ∷ last.newer) b.is in
        let done : IsDoneIn h n b.number (kind.Sleep c b.mutex) =
        record { older = last.older; newer = last.newer; request = BeginWait c b.mutex; took = b.took; other = b.other; there = at; asks = refl } in
        let x = done_event setting history thread b.number (kind.Sleep c b.mutex) done in
        let s = sleep_of_event w.events x.0 c b.mutex x.1 x.3 in
        let step : b.number ≡ s.0.step = sym (s.2.step ∙ x.2) in (
          s.0,
          contains_in s.0 w.sleeps (subst (In s.0) (sym k.sleeps) s.1),
          s.2.condition,
          record {
            older = last.older;
            newer = last.newer;
            took = b.took;
            other = b.other;
            there = at
                ∙ ap (λ i. last.older ++ Did n i (BeginWait c b.mutex) b.took b.other ∷ last.newer) step
                ∙ ap₂ (λ i l. last.older ++ Did n s.0.step (BeginWait i l) b.took b.other ∷ last.newer) (sym s.2.condition) (sym s.2.mutex);
            lasts = ap (λ i. filter_map (waits_by i n) last.newer) s.2.condition ∙ last.last;
          },
        )

    pub sleep_waits : (c : ℕ) → (set.contains (waiting_in h c) w.name ≡ true) ↔ HasSleep c
    sleep_waits c = (
      to_sleep c,
      λ a.
          let s = a.0 in
          let asleep = a.3 in
          ap (λ i. set.contains (waiting_in h i) w.name) (sym a.2)
          ∙ (waiters_are_last h s.condition w.name).1
          (last_wait h asleep.older asleep.newer w.name s.step s.condition s.mutex asleep.took asleep.other asleep.there asleep.lasts),
    )

    abbrev HasExit : Type 0
    HasExit = (x : Event) × Contains w.events x × (x.kind ≡ kind.Exit) × (x.step < steps_in h w.name)

    to_exit : has_exited_in h w.name ≡ true → HasExit
    to_exit gone =
        let p = any_in (is_exit_of w.name) h gone in
        let e = exit_of w.name p.one p.passes in
        let at = in_split p.one h p.there in
        let done : IsDoneIn h w.name e.number kind.Exit =
        record {
          older = at.older;
          newer = at.newer;
          request = Finish;
          took = e.took;
          other = e.other;
          there = at.there ∙ ap (λ d. at.older ++ d ∷ at.newer) e.is;
          asks = refl;
        } in
        let x = done_event setting history thread e.number kind.Exit done in
        (x.0, contains_in x.0 w.events x.1, x.3, subst (λ i. i < steps_in h w.name) (sym x.2) x.4)

    from_exit : HasExit → has_exited_in h w.name ≡ true
    from_exit x =
        let d = event_done setting history thread x.0 (in_contains x.0 w.events x.1) x.3 in
        let finish : d.request ≡ Finish = exit_is d.request d.other (d.asks ∙ ap (λ a. Some a) x.2) in
        let deed = Did w.name x.0.step Finish d.took d.other in
        in_any (is_exit_of w.name) deed h
        (subst (In deed) (sym (d.there ∙ ap (λ r. d.older ++ Did w.name x.0.step r d.took d.other ∷ d.newer) finish)) (in_at d.older deed d.newer))
        (same_self w.name w.name refl)

    pub exits_told : (has_exited_in h w.name ≡ true) ↔ HasExit
    exits_told = (to_exit, from_exit)
