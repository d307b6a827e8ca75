-- The events that take place in a history that reproduces a log are those up to the end of its
-- world.
use Rattle.std.proofs.Common.{◌≡◌, ◌≢◌, ◌∙◌, inl, inr, ℕ, ◌<◌, ◌≤◌, ℤ, Bool, true, false, ◌&&◌, List, [], ◌∷◌, ◌++◌, length, Option, Some, None, refl, sym, ap, ap₂, subst, arith}
use Rattle.std.specs.Prelude.{option_map, slice_get, IsSomeAnd}
use Rattle.std.specs.List.{All, Contains, cons_option, filter_map, find, last_or}
use Rattle.std.proofs.Math.Bool.{and-false}
use Rattle.std.proofs.lemmas.Bool.{and_parts, true≢false}
use Rattle.std.proofs.lemmas.Option.{none-some, same_Some}
use Rattle.plan_runs.specs.tc_base.Paths.{ThreadPath}
use Rattle.plan_runs.specs.tc_base.Names.{Name}
use Rattle.plan_runs.specs.tc_base.declared.failing.Failing.{Failing}
use Rattle.plan_runs.specs.tc_base.declared.failing.Failing.TheVariants as failing
use Rattle.plan_runs.specs.tc_base.declared.moves.Move.{Move}
use Rattle.plan_runs.specs.tc_base.declared.request.Request.{Request}
use Rattle.plan_runs.specs.tc_base.declared.request.Request.TheVariants.{Write, Fail}
use Rattle.plan_runs.specs.tc_code.Run.{EndsAs, Reproduces}
use Rattle.plan_runs.specs.run_history.History.{Deed, Did, Drained, has_drained}
use Rattle.plan_runs.specs.run_history.Told.{failed_in, fails}
use Rattle.plan_runs.proofs.run_history.of_pending.In.{In, in_at, in_mapped, in_split}
use Rattle.plan_runs.proofs.run_history.of_pending.Own.{stores_have_drained}
use Rattle.plan_runs.specs.path_walk.Paths.{Walk, Paths, paths_of}
use Rattle.plan_runs.specs.path_walk.declared.event.Event.{Event}
use Rattle.plan_runs.specs.path_walk.declared.event.EventKind.TheVariants as kind
use Rattle.plan_runs.specs.path_laws.Setting.{Setting}
use Rattle.plan_runs.specs.path_laws.history.Along.{IsThread, HistoryAlong}
use Rattle.plan_runs.specs.path_laws.events.Done.{IsDoneIn}
use Rattle.plan_runs.proofs.path_laws.of_events.Lists.{contains_in, in_contains}
use Rattle.order_switches.specs.order_formula.Worlds.{World, IsWorld}
use Rattle.plan_runs.specs.lawful_order.Events.{HasEvent, IsBefore, Placed, all_events, number_of, place_of}
use Rattle.plan_runs.specs.lawful_order.Memory.{is_store}
use Rattle.plan_runs.specs.lawful_order.Whole.{HasStep}
use Rattle.plan_runs.specs.world_plan.Plan.{is_failure}
use Rattle.plan_runs.specs.world_plan.Sights.{AreInOrder, Shows, Sight, sight_of}
use Rattle.run_lawful.specs.world.Order.{TakesPlace}
use Rattle.run_lawful.proofs.of_own.Requests.{failure_fails, none_fails}
use Rattle.run_lawful.proofs.of_world.Run as run
use Rattle.run_lawful.proofs.of_world.Ordered.{AreSeen}
use Rattle.run_lawful.proofs.of_world.Seen.{Done, Drain, SeenBy, shows_step, shows_drain, store_of, seen_by, the_sight}
use Rattle.run_lawful.proofs.of_world.Splits.{TwoPlaces, Before, Same, After, two_places}
use Rattle.run_lawful.proofs.of_world.Steps.{drained_at}
use Rattle.switch_clauses.specs.switch_runs.Worlds.{failing_of}
use Rattle.std.proofs.lemmas.List.Elements.{All-get_or}
use Rattle.plan_runs.proofs.run_history.Frame.{holds_after}
use Rattle.plan_runs.proofs.run_history.Shared.{FailureIs, keeps_failure}
use Rattle.plan_runs.specs.run_follows.blocked.Stuck.{AllDrained}
use Rattle.plan_runs.proofs.run_follows.of_blocked.Stuck.{deadlock_told}
use Rattle.plan_runs.specs.path_laws.history.Along.{IsNameOfThread}
use Rattle.plan_runs.proofs.path_laws.of_events.Events.{done_event}
use Rattle.order_switches.specs.Switches.{end_at}
use Rattle.plan_runs.proofs.order_events.Lists as lists
use Rattle.plan_runs.proofs.order_events.Numbers.{has_number}
use Rattle.plan_runs.proofs.world_plan.Numbers.{event_numbered, in_find, of_find}
use Rattle.plan_runs.proofs.world_plan.Places.{among_all, same_event}
use Rattle.plan_runs.proofs.End.{failure_is, failure_of}
use Rattle.plan_runs.proofs.of_memory.Issued.{step_named}
use Rattle.run_lawful.proofs.of_own.Requests.{store_writes}
use Rattle.plan_runs.proofs.path_laws.of_history.Logged.{history_again}

none_found : {X Y : Type 0} (f : X → Option Y) (xs : List X) → ((x : X) → In x xs → f x ≡ None) → filter_map f xs ≡ []
none_found f [] none = refl
none_found f (x ∷ xs) none =
    ap₂ (λ o ys. cons_option o ys) (none x (inl refl)) (none_found f xs (λ y i. none y (inr i)))

module _ {B : Type 0} (setting : Setting B) (moves : List Move) (again : Reproduces setting.ops setting.code setting.log moves) where
  open setting use {machine, ops, bound, code, log}

  abbrev h : List Deed
  h = run.done setting moves again

  abbrev ps : Paths
  ps = paths_of code log

  abbrev b : Bool
  b = ops.buffered

  abbrev all : HistoryAlong setting
  all = history_again setting moves again

  abbrev a : AreSeen b ps h
  a = run.seen setting moves again

  abbrev doing : (t : ℕ) (q : Walk) (x : Event) → IsThread code log t q → In x q.events → IsDoneIn h q.name x.step x.kind
  doing t q x there i = run.event_is_done setting moves again t q x there i

  -- a thread that does a step is one of the paths
  step_of_thread : (n : Name) (k : ℕ) (r : Request) (took : ℤ) (other : Option Name) → In (Did n k r took other) h → IsNameOfThread code log n
  step_of_thread n k r took other i =
      let s = in_split (Did n k r took other) h i in
      step_named setting all s.older s.newer n k r took other s.there

  -- each visible deed is of a thread of the paths
  pub named : (d : Deed) (s : Sight) → In d h → sight_of b d ≡ Some s → (t : ℕ) × (q : Walk) × (slice_get ps.threads t ≡ Some q) × (q.name ≡ s.thread)
  named d s i sees = by (seen_by b s.thread s.step d sees)
    where
      of_step : (k : ℕ) (r : Request) (took : ℤ) (other : Option Name) → In (Did s.thread k r took other) h
          → (t : ℕ) × (q : Walk) × (slice_get ps.threads t ≡ Some q) × (q.name ≡ s.thread)
      of_step k r took other j = let n = step_of_thread s.thread k r took other j in (n.index, n.walk, n.there, n.name_is)

      by : SeenBy b s.thread s.step d → (t : ℕ) × (q : Walk) × (slice_get ps.threads t ≡ Some q) × (q.name ≡ s.thread)
      by (Done r took other asked same asks kept) = of_step s.step r took other (subst (λ e. In e h) same i)
      by (Drain c v same) =
          let store = store_of b h a.told s.thread s.step c v (subst (λ e. In e h) same i) in of_step s.step (Write c v) store.0 store.1 store.2

  -- a pending store that has drained takes place
  takes_by_drain : (t : ℕ) (q : Walk) (x : Event) → IsThread code log t q → has_drained h q.name x.step ≡ true → TakesPlace b ps h t x.step
  takes_by_drain t q x there has =
      let d = drained_at h q.name x.step has in
      record {
        older = d.older;
        deed = Drained q.name x.step d.cell d.value;
        newer = d.newer;
        there = d.there;
        shows = shows_drain b ps t x.step q d.cell d.value there;
      }

  -- if no event fails, no step has failed
  module _ (none : find (λ (e : Placed Event). is_failure e.it.kind) (all_events ps) ≡ None) where
    no_failure : (d : Deed) → In d h → fails d ≡ None
    no_failure (Did n k Fail took other) i =
        let m = step_of_thread n k Fail took other i in
        let s = in_split (Did n k Fail took other) h i in
        let done : IsDoneIn h m.walk.name k kind.Fail =
        subst (λ o. IsDoneIn h o k kind.Fail) (sym m.name_is)
        (record { older = s.older; newer = s.newer; request = Fail; took = took; other = other; there = s.there; asks = refl }) in
        let x = done_event setting all m.thread k kind.Fail done in
        let f = in_find (λ (e : Placed Event). is_failure e.it.kind) (all_events ps) (record { thread = m.index; it = x.0 })
        (among_all ps m.index m.walk x.0 m.there (contains_in x.0 m.walk.events x.1)) (failure_of x.0.kind x.3) in
        absurd (none-some f.0 (sym none ∙ f.1))
    no_failure (Did n k r took other) i = refl
    no_failure (Drained n k c v) i = refl

    no_thread : failed_in h ≡ None
    no_thread = ap (last_or None) (none_found fails h no_failure)

    -- in a deadlock no store waits
    all_drained : AllDrained b h
    all_drained = by log.failing again.ends
      where
        some_thread : (o : Option ThreadPath) → IsSomeAnd o (λ t. again.state.failed ≡ Some t.name) → ⊥
        some_thread None never = never
        some_thread (Some t) failed =
            none-some t.name (sym (sym failed ∙ holds_after ops code (FailureIs ops code) (keeps_failure ops code) refl moves again.state again.leads ∙ no_thread))

        by : (f : Failing) → EndsAs ops code f log.threads again.state → AllDrained b h
        by (failing.Thread k) ends = absurd (some_thread (slice_get log.threads k) ends)
        by failing.Deadlock ends = ((deadlock_told machine moves again.state again.leads).0 ends).drained

    drained : (t : ℕ) (q : Walk) (x : Event) → IsThread code log t q → Contains q.events x → (b && is_store x.kind) ≡ true → has_drained h q.name x.step ≡ true
    drained t q x there i waits =
        let both = and_parts b (is_store x.kind) waits in
        let d = doing t q x there (in_contains x q.events i) in
        let s = store_writes d.request d.other x.kind d.asks both.1 in
        (stores_have_drained b h q.name).0 (all_drained q.name) both.0 x.step s.0 s.1
        (record {
          before = d.older;
          after = d.newer;
          took = d.took;
          other = d.other;
          issued = d.there ∙ ap (λ r. d.older ++ Did q.name x.step r d.took d.other ∷ d.newer) s.2;
        })

  -- In a world with the same order of events.
  module _ (w : World) (world : IsWorld w) (events : length w.positions ≡ length (all_events ps)) (small : All (λ p. p < 256) w.positions)
      (ordered : AreInOrder b ps w h) where
    abbrev place : (t k : ℕ) → ℕ
    place t k = place_of ps w t k

    abbrev end : ℕ
    end = end_at (failing_of ps) w

    -- nothing takes place after the event that fails
    fail_last : (u : ℕ) (f : Event) → HasEvent ps u f → f.kind ≡ kind.Fail → (t k : ℕ) → TakesPlace b ps h t k → place t k ≤ place u f.step
    fail_last u f hf fails_so t k x = by (two_places x.older x.deed x.newer df.older failed df.newer (sym x.there ∙ df.there))
      where
        df : IsDoneIn h hf.0.name f.step f.kind
        df = doing u hf.0 f hf.1 (in_contains f hf.0.events hf.2)

        failed : Deed
        failed = Did hf.0.name f.step df.request df.took df.other

        shows : Shows b ps failed u f.step
        shows =
            shows_step b ps u f.step hf.0 df.request df.took df.other f.kind hf.1 df.asks (ap (λ k. b && is_store k) fails_so ∙ and-false b)

        by : TwoPlaces x.older x.deed x.newer df.older failed df.newer → place t k ≤ place u f.step
        by (Before between at rest) =
            let before = ordered x.older between df.newer x.deed failed t k u f.step (df.there ∙ ap (λ g. g ++ failed ∷ df.newer) at) x.shows shows in
            omega (arith, before)
        by (Same at one rest) =
            let mine = subst (λ d. Shows b ps d t k) one x.shows in
            let same : the_sight mine.walk.name k ≡ the_sight hf.0.name f.step =
            same_Some (the_sight mine.walk.name k) (the_sight hf.0.name f.step)
            (sym mine.sight ∙ shows.sight ∙ ap (λ (q : Walk). Some (the_sight q.name f.step)) (same_Some shows.walk hf.0 (sym shows.there ∙ hf.1))) in
            let thread = a.names t u mine.walk hf.0 mine.there hf.1 (ap (λ (s : Sight). s.thread) same) in
            let one_place = ap₂ place thread (ap (λ (s : Sight). s.step) same) in
            omega (arith, one_place)
        by (After between at rest) =
            let is_fail = failure_fails df.request df.other (df.asks ∙ ap (λ k. Some k) fails_so) in
            let gone = Did hf.0.name f.step Fail df.took df.other in
            let there_gone : In gone x.older =
            subst (λ g. In gone g) (sym (at ∙ ap (λ s. df.older ++ Did hf.0.name f.step s df.took df.other ∷ between) is_fail))
            (in_at df.older gone between) in
            absurd (none_fails x.older hf.0.name (in_mapped fails gone hf.0.name x.older there_gone refl) (all.along.follow x.older x.newer x.deed x.there).0)

    abbrev found : Option (Placed Event)
    found = find (λ (e : Placed Event). is_failure e.it.kind) (all_events ps)

    abbrev end_by : Option (Placed Event) → ℕ
    end_by o = end_at (option_map (λ (e : Placed Event). number_of ps e.thread e.it.step) o) w

    -- the event that fails
    fails_at : (e : Placed Event) → found ≡ Some e → HasEvent ps e.thread e.it × (e.it.kind ≡ kind.Fail)
    fails_at e at =
        let f = of_find (λ (d : Placed Event). is_failure d.it.kind) (all_events ps) e at in
        let i = lists.in_at (all_events ps) e f.0 in
        let q = event_numbered ps a.whole i.0 e i.1 in
        (q, failure_is e.it.kind f.1)

    -- each event that takes place is before the end
    pub within : (t k : ℕ) → TakesPlace b ps h t k → place t k < end
    within t k x = by found refl
      where
        by : (o : Option (Placed Event)) → found ≡ o → place t k < end_by o
        by None at =
            All-get_or (λ p. p < 256) w.positions (number_of ps t k) 0
            (omega (arith, has_number ps t k (a.events t k x), events)) small
        by (Some e) at = let f = fails_at e at in let last = fail_last e.thread e.it f.0 f.1 t k x in omega (arith, last)

    -- each event before the end takes place, if the stores before the failing event have drained
    module _ (before_fail : (t u : ℕ) (q : Walk) (x f : Event) → IsThread code log t q → Contains q.events x → (b && is_store x.kind) ≡ true
        → HasEvent ps u f → f.kind ≡ kind.Fail → IsBefore ps w t x.step u f.step → has_drained h q.name x.step ≡ true) where
      event_takes : (t : ℕ) (q : Walk) (x : Event) → IsThread code log t q → Contains q.events x → place t x.step < end → TakesPlace b ps h t x.step
      event_takes t q x there i before = by (b && is_store x.kind) refl
        where
          waits_by : (o : Option (Placed Event)) → found ≡ o → place t x.step < end_by o → (b && is_store x.kind) ≡ true → has_drained h q.name x.step ≡ true
          waits_by None at less waits = drained at t q x there i waits
          waits_by (Some e) at less waits =
              let f = fails_at e at in
              let other : place t x.step ≢ place e.thread e.it.step =
              λ one.
              let same = same_event ps w world events a.whole t e.thread q f.0.0 x e.it there f.0.1 i f.0.2 one in
              true≢false (sym (and_parts b (is_store x.kind) waits).1 ∙ ap (λ (y : Event). is_store y.kind) same.1 ∙ ap is_store f.1) in
              let first : place t x.step < place e.thread e.it.step = grind (arith, less, other) in
              before_fail t e.thread q x e.it there i waits f.0 f.1 first

          by : (c : Bool) → (b && is_store x.kind) ≡ c → TakesPlace b ps h t x.step
          by false kept = a.done t x (q, there, i) kept
          by true waits = takes_by_drain t q x there (waits_by found refl before waits)

      pub takes : (t k : ℕ) → HasStep ps t k → place t k < end → TakesPlace b ps h t k
      takes t k s before =
          subst (λ j. TakesPlace b ps h t j) s.2
          (event_takes t s.1.0 s.0 s.1.1 s.1.2 (subst (λ j. place t j < end) (sym s.2) before))
