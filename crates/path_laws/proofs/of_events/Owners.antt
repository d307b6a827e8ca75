-- The regions of paths determine who owns a mutex.
use Rattle.std.proofs.Common.{◌≡◌, ◌↔◌, ◌∙◌, inl, inr, ℕ, suc, ◌<◌, ℤ, Bool, true, false, cond, ◌==◌, ◌&&◌, length, take, drop, List, [], ◌∷◌, ◌++◌}
use Rattle.std.proofs.Common.{Option, Some, None, refl, sym, ap, subst, arith}
use Rattle.std.specs.Prelude.{unwrap_or, option_map}
use Rattle.std.specs.FinMap as fin
use Rattle.std.specs.List.{Contains, cons_option}
use Rattle.std.proofs.lemmas.Bool.{false≢true, eqb-true}
use Rattle.std.proofs.lemmas.Option.{none-some, same_Some}
use Rattle.path_walk.specs.tc_base.Names.{Name}
use Rattle.path_walk.specs.tc_base.States.{Thread}
use Rattle.path_walk.specs.tc_base.declared.request.Request.{Request}
use Rattle.path_walk.specs.tc_base.declared.request.Request.TheVariants.{Silent, Acquire, Release, BeginWait, EndWait}
use Rattle.path_walk.specs.tc_code.Code.{Code}
use Rattle.path_walk.specs.tc_code.Step.{holds}
use Rattle.run_follows.proofs.run_laws.Asks.{AsksOf}
use Rattle.run_follows.proofs.run_laws.Basics.{some_value}
use Rattle.run_follows.proofs.run_laws.Owners.{owners_hold}
use Rattle.run_follows.specs.run_history.History.{Deed, Did}
use Rattle.run_follows.specs.run_history.Told.{owner_by, owner_in, steps_in}
use Rattle.run_follows.proofs.run_history.Last.{owners_are_last}
use Rattle.run_follows.proofs.of_deeds.Cells.{next_within}
use Rattle.run_follows.proofs.run_history.of_pending.In.{In}
use Rattle.path_walk.specs.Events.{acquired_mutex, release_step, regions_of}
use Rattle.path_walk.specs.Fits.{fails_in}
use Rattle.path_walk.specs.Marks.{marks_at_start, marks_after}
use Rattle.path_walk.specs.Paths.{Walk}
use Rattle.path_walk.specs.Steps.{steps_at}
use Rattle.path_walk.specs.declared.event.Event.{Event}
use Rattle.path_walk.specs.declared.event.Region.{Region}
use Rattle.path_laws.specs.Setting.{Setting}
use Rattle.path_laws.specs.history.Along.{IsNameOfThread, HistoryAlong, PathThread}
use Rattle.path_laws.proofs.of_history.Told.{RunOf, reached, steps_of, its_run, up_to}
use Rattle.path_laws.proofs.of_history.Walks.{IsWalk, walking, walk_is, thread_named}
use Rattle.path_laws.specs.events.Done.{IsOpenAfter}
use Rattle.path_laws.proofs.of_events.Lists.{in_contains, contains_in}
use Rattle.path_laws.proofs.of_events.Marked.{Rising, events_rise}
use Rattle.path_laws.proofs.of_events.Events.{at_step, there_by_step}
use Rattle.path_laws.proofs.of_events.Regions.{held_upto, to_region, from_region}
use Rattle.path_laws.proofs.of_events.Sites.{takes_by, taken_within}
use Rattle.path_laws.proofs.of_events.Held.{holds_told}

-- a deed that acquires a mutex
record IsTaking (m : ℕ) (n : Name) (d : Deed) : Type 0 where
  number : ℕ
  request : Request
  took : ℤ
  other : Option Name
  is : d ≡ Did n number request took other
  within : (code : Code) → AsksOf code request → m < code.mutexes

taken_so : (m l : ℕ) (q n : Name) → cond (l == m) (Some (Some q)) None ≡ Some (Some n) → (l ≡ m) × (q ≡ n)
taken_so m l q n e = by (l == m) refl e
  where
    by : (b : Bool) → (l == m) ≡ b → cond b (Some (Some q)) None ≡ Some (Some n) → (l ≡ m) × (q ≡ n)
    by true t e = (eqb-true l m t, same_Some q n (same_Some (Some q) (Some n) e))
    by false t e = absurd (none-some (Some n) e)

left_so : (m l : ℕ) (n : Name) → cond (l == m) (Some None) None ≡ Some (Some n) → ⊥
left_so m l n e = by (l == m) e
  where
    by : (b : Bool) → cond b (Some None) None ≡ Some (Some n) → ⊥
    by true e = none-some n (same_Some None (Some n) e)
    by false e = none-some (Some n) e

taking : (m : ℕ) (n : Name) (d : Deed) → owner_by m d ≡ Some (Some n) → IsTaking m n d
taking m n (Did q k (Acquire l) took other) e =
    let same = taken_so m l q n e in
    record {
      number = k;
      request = Acquire l;
      took = took;
      other = other;
      is = ap (λ p. Did p k (Acquire l) took other) same.1;
      within = λ code asks. subst (λ i. i < code.mutexes) same.0 asks;
    }
taking m n (Did q k (EndWait c l) took other) e =
    let same = taken_so m l q n e in
    record {
      number = k;
      request = EndWait c l;
      took = took;
      other = other;
      is = ap (λ p. Did p k (EndWait c l) took other) same.1;
      within = λ code asks. subst (λ i. i < code.mutexes) same.0 asks.1;
    }
taking m n (Did q k (Release l) took other) e = absurd (left_so m l n e)
taking m n (Did q k (BeginWait c l) took other) e = absurd (left_so m l n e)
taking m n (Did q k Silent took other) e = absurd (none-some (Some n) e)
taking m n d e = absurd (none-some (Some n) e)

-- the region of an event that acquires a mutex
abbrev region_at : Event → List Event → ℕ → Region
region_at x later l = record { mutex = l; «from» = x.step; to = release_step l later }

-- the event that begins a region
region_event : (es : List Event) (r : Region) → In r (regions_of es) → (x : Event) × In x es × (acquired_mutex x.kind ≡ Some r.mutex)
region_event [] r i = absurd i
region_event (x ∷ es) r i = by (acquired_mutex x.kind) refl i (λ j. later (region_event es r j))
  where
    later : (y : Event) × In y es × (acquired_mutex y.kind ≡ Some r.mutex) → (y : Event) × In y (x ∷ es) × (acquired_mutex y.kind ≡ Some r.mutex)
    later y = (y.0, inr y.1, y.2)

    by : (o : Option ℕ) → acquired_mutex x.kind ≡ o → In r (cons_option (option_map (region_at x es) o) (regions_of es))
        → (In r (regions_of es) → (y : Event) × In y (x ∷ es) × (acquired_mutex y.kind ≡ Some r.mutex)) → (y : Event) × In y (x ∷ es) × (acquired_mutex y.kind ≡ Some r.mutex)
    by None t i rest = rest i
    by (Some l) t (inl same) rest = (x, inl refl, t ∙ ap (λ (g : Region). Some g.mutex) same)
    by (Some l) t (inr i) rest = rest i

abbrev HasOpen : Walk → ℕ → ℕ → Type 0
HasOpen w m n = (r : Region) × Contains w.regions r × (r.mutex ≡ m) × IsOpenAfter n r

module _ {B : Type 0} (setting : Setting B) (history : HistoryAlong setting) where
  open setting use {machine, ops, code, lawful, log, log_is as is}
  open history use {deeds as h, fits, along}

  abbrev r : RunOf machine log h
  r = its_run setting history

  -- the deed by which an owner acquired a mutex
  pub record TookIt (m : ℕ) (n : Name) : Type 0 where
    pub within : m < code.mutexes
    pub thread : IsNameOfThread code log n

  pub took_it : (m : ℕ) (n : Name) → owner_in h m ≡ Some n → TookIt m n
  took_it m n owns =
      let last = (owners_are_last h m n).0 owns in
      let t = taking m n last.deed last.gives in
      let at = last.there ∙ ap (λ d. last.older ++ d ∷ last.newer) t.is in
      let d = Did n t.number t.request t.took t.other in
      let before = up_to setting history last.older (d ∷ last.newer) at in
      let may = (along.follow last.older last.newer d at).1 in
      record {
        within = t.within code (next_within machine last.older n t.request before.along.follow may.asks);
        thread = thread_named setting before n (r.told.threads last.older last.newer n t.number t.request t.took t.other at).there;
      }

  module _ (thread : PathThread code log) (m : ℕ) where
    open thread use {walk as w}

    abbrev k : IsWalk code log w
    k = walk_is code log is fits thread

    abbrev n : Name
    n = w.name

    -- the mutex of a region exists
    region_within : (g : Region) → In g w.regions → g.mutex ≡ m → m < code.mutexes
    region_within g i mutex =
        let e = region_event w.events g (subst (In g) k.regions i) in
        let s = at_step code log w k e.0 e.1 in
        let ss = steps_at code w.function w.places in
        taken_within code log w k lawful m s.place s.step s.there
        (takes_by (marks_after (marks_at_start code w.function) (take s.place ss)) s.step.instr (fails_in log n && length (drop (suc s.place) ss) == 0) e.0.kind m
        s.asks (e.2 ∙ ap (λ l. Some l) mutex))

    rising : Rising w.events
    rising =
        subst Rising (sym k.events) (events_rise code w.function (fails_in log n) 0 (marks_at_start code w.function) (steps_at code w.function w.places))

    module _ (t : Thread B) (here : fin.get r.state.threads n ≡ Some t) (within : m < code.mutexes) where
      steps : t.local.steps ≡ steps_in h n
      steps = steps_of machine log h r n t here

      holds_by : holds t.local m ≡ unwrap_or (held_upto m (steps_in h n) w.events) false
      holds_by =
          holds_told setting history thread t (walking setting history thread t here) m within
          ∙ ap (λ i. unwrap_or (held_upto m i w.events) false) steps

      some_true : (o : Option Bool) → unwrap_or o false ≡ true → o ≡ Some true
      some_true None e = absurd (false≢true e)
      some_true (Some b) e = ap (λ c. Some c) e

      to_open : owner_in h m ≡ Some n → HasOpen w m (steps_in h n)
      to_open owns =
          let hold = ((owners_hold ops code r.state lawful (reached machine log h r)).holder n t m here).1
          (r.told.tells.owners.owners m within ∙ owns) in
          let o = to_region m (steps_in h n) w.events (some_true (held_upto m (steps_in h n) w.events) (sym holds_by ∙ hold)) in
          (o.region, contains_in o.region w.regions (subst (In o.region) (sym k.regions) o.there), o.mutex, o.open_after)

      from_open : (g : Region) → In g w.regions → g.mutex ≡ m → IsOpenAfter (steps_in h n) g → owner_in h m ≡ Some n
      from_open g i mutex lasts =
          let last = from_region m (steps_in h n) w.events rising
          (record { region = g; there = subst (In g) k.regions i; mutex = mutex; open_after = lasts }) in
          let hold = holds_by ∙ ap (λ o. unwrap_or o false) last in
          sym (r.told.tells.owners.owners m within)
          ∙ ((owners_hold ops code r.state lawful (reached machine log h r)).holder n t m here).0 hold

    pub region_owned : (owner_in h m ≡ Some n) ↔ HasOpen w m (steps_in h n)
    region_owned = (
      λ owns.
          let within = (took_it m n owns).within in
          let t = some_value (fin.get r.state.threads n)
          ((owners_hold ops code r.state lawful (reached machine log h r)).there n m
          (r.told.tells.owners.owners m within ∙ owns)) in
          to_open t.0 t.1 within owns,
      λ o.
          let i = in_contains o.0 w.regions o.1 in
          let t = there_by_step setting history thread (omega (arith, o.3.begun)) in
          from_open t.0 t.1 (region_within o.0 i o.2) o.0 i o.2 o.3,
    )
