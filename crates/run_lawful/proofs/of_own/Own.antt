-- The order of a thread's own events in the world of a run.
use Rattle.std.proofs.Common.{◌≡◌, ◌≢◌, ◌∙◌, ◌⊎◌, inl, inr, ℕ, ◌<◌, ◌≤◌, ◌==◌, ℤ, Bool, true, false, not, ◌&&◌, ◌||◌, List, ◌∷◌, ◌++◌, Option, Some, None, refl, sym, ap, ap₂, subst, arith, append_assoc}
use Rattle.std.specs.Prelude.{slice_get}
use Rattle.std.specs.Option.{option_eq}
use Rattle.std.specs.List.{Contains}
use Rattle.std.proofs.Math.Bool.{and-false}
use Rattle.std.proofs.lemmas.Bool.{false≢true, true≢false, and_parts, eq-eqb}
use Rattle.sym_events.proofs.run_laws.Names.{same_self}
use Rattle.std.proofs.lemmas.Option.{same_Some, slice_get_cases, slice_get_within}
use Rattle.sym_events.specs.tc_base.Names.{Name}
use Rattle.sym_events.specs.tc_base.declared.moves.Move.{Move}
use Rattle.sym_events.specs.tc_base.declared.request.Request.{Request}
use Rattle.sym_events.specs.tc_base.declared.request.Request.TheVariants.{Write, Fail}
use Rattle.sym_events.specs.tc_code.Run.{Reproduces}
use Rattle.sym_steps.specs.run_history.History.{Deed, Did, Drained, has_drained, drains}
use Rattle.sym_steps.specs.run_history.Told.{steps_in, fails}
use Rattle.sym_steps.specs.run_history.pending.Deeds.{IsIssuedIn, DrainsAreOfStores, MayDrainNext, has_bar_between}
use Rattle.sym_steps.proofs.run_history.of_pending.In.{In, in_at, in_left, in_any, in_mapped, one_of_name}
use Rattle.sym_steps.proofs.run_history.of_pending.Own.{stores_have_drained}
use Rattle.sym_steps.specs.run_follows.Follow.{AllFollow}
use Rattle.sym_events.specs.path_walk.Paths.{Walk, Paths, paths_of}
use Rattle.sym_events.specs.path_walk.declared.event.Event.{Event}
use Rattle.sym_events.specs.path_walk.declared.event.EventKind.{EventKind}
use Rattle.sym_events.specs.path_walk.declared.event.EventKind.TheVariants as kind
use Rattle.sym_steps.specs.path_laws.Setting.{Setting}
use Rattle.sym_steps.specs.path_laws.Deeds.{kind_of}
use Rattle.sym_steps.specs.path_laws.history.Along.{IsThread, HistoryAlong, path_thread}
use Rattle.sym_steps.proofs.path_laws.of_history.Walks.{walk_is}
use Rattle.sym_steps.specs.path_laws.events.Done.{IsDoneIn}
use Rattle.sym_steps.proofs.path_laws.of_events.Bars as bars
use Rattle.sym_steps.proofs.path_laws.of_events.Events.{event_within}
use Rattle.sym_steps.proofs.path_laws.of_events.Steps.{steps_both}
use Rattle.sym_steps.proofs.path_laws.of_events.Lists.{in_contains, contains_in}
use Rattle.sym_events.specs.sym_terms.Terms.{AreTerms}
use Rattle.sym_events.specs.sym_terms.declared.node.Node.{Node}
use Rattle.sym_events.specs.sym_exec.Alone.{Asked, cell_by}
use Rattle.sym_events.specs.sym_exec.Executed.{Course, Executed}
use Rattle.sym_events.specs.sym_exec.declared.symbolic.Access.{Access}
use Rattle.sym_steps.specs.sym_laws.Valued.{AgreesWith, found}
use Rattle.sym_events.specs.order_formula.Worlds.{World}
use Rattle.sym_events.specs.lawful_order.Cells.{is_same_cell}
use Rattle.sym_events.specs.lawful_order.Events.{IsBefore}
use Rattle.sym_events.specs.lawful_order.Memory.{is_store, may_overtake, is_kept, same_cell, cell_of, OwnRule}
use Rattle.sym_events.specs.lawful_order.Whole.{HasStep, IsExecutedBy}
use Rattle.sym_events.proofs.Whole.{is_executed}
use Rattle.sym_steps.specs.accesses.Asked.{IsReachedIn}
use Rattle.sym_steps.proofs.of_accesses.Asked.{asked_access}
use Rattle.sym_steps.proofs.of_accesses.Reached.{reached_sound}
use Rattle.sym_steps.proofs.of_accesses.Sound.{same_cell_is}
use Rattle.sym_steps.proofs.of_accesses.Found.{cell_found}
use Rattle.world_plan.specs.Sights.{Shows}
use Rattle.run_lawful.specs.world.Order.{TakesPlace, IsOrderOf}
use Rattle.run_lawful.specs.world.WorldOf.{world_in}
use Rattle.run_lawful.proofs.of_world.Ordered.{is_order}
use Rattle.run_lawful.proofs.of_world.Run.{fits, told, seen, event_is_done, all_steps}
use Rattle.run_lawful.proofs.of_world.Run as run
use Rattle.run_lawful.proofs.of_world.Loads as loads
use Rattle.run_lawful.proofs.of_world.Seen.{SeenBy, Done, Drain, shown_by, shows_step, shows_drain}
use Rattle.run_lawful.proofs.of_world.Splits.{TwoPlaces, Before, Same, After, two_places}
use Rattle.run_lawful.proofs.of_world.Steps.{IsDrainedAt, drained_at, steps_after, steps_ordered, step_before_drain}
use Rattle.run_lawful.proofs.of_own.Requests.{store_writes, failure_fails, no_store, finds_empty, none_fails}
use Rattle.sym_steps.proofs.path_laws.of_history.Told.{up_to}
use Rattle.sym_steps.proofs.path_laws.of_history.Logged.{history_again}
use Rattle.sym_steps.specs.Valued.{ValuedHistory}

abbrev asked_of : Deed → Option EventKind
asked_of (Did n k r v o) = kind_of r o
asked_of _ = None

-- the deed that does an event
abbrev deed_of : (g : List Deed) (n : Name) (x : Event) → IsDoneIn g n x.step x.kind → Deed
deed_of g n x d = Did n x.step d.request d.took d.other

abbrev cell_asked : ℕ → Request → ℕ
cell_asked other (Write c v) = c
cell_asked other _ = other

abbrev cell_in : ℕ → Deed → ℕ
cell_in other (Did n k r v o) = cell_asked other r
cell_in other _ = other

drains_itself : (n : Name) (k c : ℕ) (v : ℤ) → drains n k (Drained n k c v) ≡ true
drains_itself n k c v = ap₂ (λ d e. d && e) (same_self n n refl) (eq-eqb k k refl)

module _ {B : Type 0} (setting : Setting B) (nodes : List Node) (terms : AreTerms nodes) (moves : List Move)
    (again : Reproduces setting.ops setting.code setting.log moves) where
  open setting use {ops, bound, code, lawful, log, log_is as is}

  abbrev h : List Deed
  h = run.done setting moves again

  abbrev ps : Paths
  ps = paths_of code log

  abbrev b : Bool
  b = ops.buffered

  abbrev x' : Executed
  x' = found code log nodes

  abbrev w : World
  w = world_in b ps x'.symbolic h

  abbrev all : HistoryAlong setting
  all = history_again setting moves again

  ordered : IsOrderOf b ps h w
  ordered = is_order b ps x'.symbolic h (seen setting moves again)

  agrees : AgreesWith x'.symbolic w.loads h
  agrees = loads.agrees ops code log nodes moves again

  abbrev valued : ValuedHistory setting nodes w.loads
  valued = record { history = all; terms = terms; agrees = agrees }

  module _ (t : ℕ) (q : Walk) (there : IsThread code log t q) where
    doing : (x : Event) → In x q.events → IsDoneIn h q.name x.step x.kind
    doing x i = event_is_done setting moves again t q x there i

    abbrev deed : (x : Event) → IsDoneIn h q.name x.step x.kind → Deed
    deed x d = deed_of h q.name x d

    has_step : (x : Event) → In x q.events → HasStep ps t x.step
    has_step x i = (x, (q, there, contains_in x q.events i), refl)

    -- an event that doesn't wait takes place by its step
    shows : (x : Event) → (d : IsDoneIn h q.name x.step x.kind) → (b && is_store x.kind) ≡ false → Shows b ps (deed x d) t x.step
    shows x d kept = shows_step b ps t x.step q d.request d.took d.other x.kind there d.asks kept

    -- the step of a store
    record IsStoreAt (x : Event) : Type 0 where
      older : List Deed
      newer : List Deed
      cell : ℕ
      value : ℤ
      took : ℤ
      other : Option Name
      at : h ≡ older ++ Did q.name x.step (Write cell value) took other ∷ newer

    store_at : (x : Event) → In x q.events → is_store x.kind ≡ true → IsStoreAt x
    store_at x i e =
        let d = doing x i in
        let s = store_writes d.request d.other x.kind d.asks e in
        record {
          older = d.older;
          newer = d.newer;
          cell = s.0;
          value = s.1;
          took = d.took;
          other = d.other;
          at = d.there ∙ ap (λ r. d.older ++ Did q.name x.step r d.took d.other ∷ d.newer) s.2;
        }

    -- a store that waits takes place by its drain or never
    drained_or_never : (x : Event) → In x q.events → (b && is_store x.kind) ≡ true → IsDrainedAt h q.name x.step ⊎ (TakesPlace b ps h t x.step → ⊥)
    drained_or_never x i waits = by (has_drained h q.name x.step) refl
      where
        never : has_drained h q.name x.step ≡ false → TakesPlace b ps h t x.step → ⊥
        never none p = seen_so (shown_by b ps t x.step q p.deed there p.shows)
          where
            p_in : In p.deed h
            p_in = subst (In p.deed) (sym p.there) (in_at p.older p.deed p.newer)

            seen_so : SeenBy b q.name x.step p.deed → ⊥
            seen_so (Done r v o asked same asks kept) =
                let d = doing x i in
                let mine : In (deed x d) h = subst (In (deed x d)) (sym d.there) (in_at d.older (deed x d) d.newer) in
                let one = one_of_name h (Did q.name x.step r v o) (deed x d) (told setting moves again).apart
                (subst (λ e. In e h) same p_in) mine refl in
                let kinds : asked ≡ x.kind = same_Some asked x.kind (sym asks ∙ ap asked_of one ∙ d.asks) in
                true≢false (sym waits ∙ ap (λ k. b && is_store k) (sym kinds) ∙ kept)
            seen_so (Drain c v same) =
                let drain = Drained q.name x.step c v in
                true≢false (sym (in_any (drains q.name x.step) drain h (subst (λ e. In e h) same p_in) (drains_itself q.name x.step c v)) ∙ none)

        by : (c : Bool) → has_drained h q.name x.step ≡ c → IsDrainedAt h q.name x.step ⊎ (TakesPlace b ps h t x.step → ⊥)
        by true e = inl (drained_at h q.name x.step e)
        by false e = inr (never e)

    -- The cell of a store, by its access.

    -- the access of a store
    record HasCell (x : Event) (c : ℕ) : Type 0 where
      access : Access
      cell : cell_of x'.symbolic t x.step ≡ Some access.cell
      reached : IsReachedIn code log nodes h t access
      same : cell_by x'.nodes w.loads access.cell ≡ c

    executed_by : IsExecutedBy ps x'.symbolic
    executed_by = is_executed code ps nodes (record { log = log; fits = fits setting moves again; are = refl })

    course : (c : Course) × (slice_get x'.symbolic.threads t ≡ Some c)
    course =
        elim (slice_get_cases x'.symbolic.threads t).1 [
          | inl it ↦ (it.0, it.2)
          | inr past ↦ absurd (omega (arith, past.0, executed_by.threads, slice_get_within ps.threads t q there))
        ]

    cell_at : (x : Event) → In x q.events → (s : IsStoreAt x) → HasCell x s.cell
    cell_at x i s =
        let c = course in
        let f = fits setting moves again in
        let asked : Asked = record { cell = s.cell; takes = None; writes = Some s.value } in
        let a = asked_access setting nodes w.loads valued (record { thread = path_thread t q there; course = c.0; executed = c.1 }) x.step asked (record {
          older = s.older;
          newer = s.newer;
          request = Write s.cell s.value;
          took = s.took;
          other = s.other;
          there = s.at;
          asks = refl;
        }) in
        let many = all_steps setting moves again t q there in
        let inside = event_within code log q (walk_is code log is f (path_thread t q there)) x i in
        record {
          access = a.0;
          cell = ap (cell_of x'.symbolic t) (sym a.2)
              ∙ cell_found ps x'.symbolic t a.0 executed_by (c.0, c.1, contains_in a.0 c.0.accesses a.1);
          reached = record {
            walk = q;
            course = c.0;
            thread = there;
            there = c.1;
            among = contains_in a.0 c.0.accesses a.1;
            reached = inl (omega (arith, a.2, many, inside));
          };
          same = ap (λ (y : Asked). y.cell) a.3;
        }

    -- Two events of the thread.
    module _ (x y : Event) (xi : In x q.events) (yi : In y q.events) (less : x.step < y.step) where
      abbrev IsFirst : Type 0
      IsFirst = IsBefore ps w t x.step t y.step

      abbrev follow : AllFollow b bound code h
      follow = all.along.follow

      -- neither event waits
      by_steps : (b && is_store x.kind) ≡ false → (b && is_store y.kind) ≡ false → IsFirst
      by_steps x_kept y_kept =
          let dx = doing x xi in
          let dy = doing y yi in
          let m = steps_ordered b bound code h follow q.name x.step y.step dx.older dx.newer dy.older dy.newer dx.request dy.request dx.took dy.took dx.other dy.other
          dx.there dy.there less in
          ordered.order dx.older m.0 dy.newer (deed x dx) (deed y dy) t x.step t y.step (dy.there ∙ ap (λ g. g ++ deed y dy ∷ dy.newer) m.1)
          (shows x dx x_kept) (shows y dy y_kept)

      -- the second event waits
      by_drain : (b && is_store x.kind) ≡ false → (b && is_store y.kind) ≡ true → IsFirst
      by_drain x_kept y_waits =
          let dx = doing x xi in
          elim (drained_or_never y yi y_waits) [
            | inl d ↦
                let drain = Drained q.name y.step d.cell d.value in
                let m = step_before_drain b bound code h follow stores q.name x.step y.step dx.older dx.newer dx.request dx.took dx.other dx.there d less in
                ordered.order dx.older m.0 d.newer (deed x dx) drain t x.step t y.step (d.there ∙ ap (λ g. g ++ drain ∷ d.newer) m.1)
                (shows x dx x_kept) (shows_drain b ps t y.step q d.cell d.value there)
            | inr never ↦
                ordered.never t x.step t y.step
                (record { older = dx.older; deed = deed x dx; newer = dx.newer; there = dx.there; shows = shows x dx x_kept }) (has_step y yi) never
          ]
        where
          stores : DrainsAreOfStores h
          stores = (told setting moves again).stores

      -- the first event waits, and has drained when the second is done
      by_empty : (b && is_store x.kind) ≡ true → may_overtake y.kind ≡ false → IsFirst
      by_empty x_waits y_needs =
          let both = and_parts b (is_store x.kind) x_waits in
          let s = store_at x xi both.1 in
          let dy = doing y yi in
          let f = follow dy.older dy.newer (deed y dy) dy.there in
          let store = Did q.name x.step (Write s.cell s.value) s.took s.other in
          let m = steps_ordered b bound code h follow q.name x.step y.step s.older s.newer dy.older dy.newer (Write s.cell s.value) dy.request s.took dy.took s.other
          dy.other s.at dy.there less in
          let empty = finds_empty b dy.older q.name dy.request dy.other y.kind dy.asks y_needs f.1.may in
          let has = (stores_have_drained b dy.older q.name).0 empty both.0 x.step s.cell s.value
          (record { before = s.older; after = m.0; took = s.took; other = s.other; issued = m.1 }) in
          let d = drained_at dy.older q.name x.step has in
          let drain = Drained q.name x.step d.cell d.value in
          let y_kept : (b && is_store y.kind) ≡ false = ap₂ (λ c e. c && e) both.0 (no_store y.kind y_needs) in
          ordered.order d.older d.newer dy.newer drain (deed y dy) t x.step t y.step (dy.there ∙ ap (λ g. g ++ deed y dy ∷ dy.newer) d.there)
          (shows_drain b ps t x.step q d.cell d.value there) (shows y dy y_kept)

      -- both events wait, and the second is bound after the first
      same_is : (sx : IsStoreAt x) → (sy : IsStoreAt y)
          → same_cell b bound ps x'.symbolic x'.nodes w t x y ≡ (sx.cell == sy.cell)
      same_is sx sy =
          let cx = cell_at x xi sx in
          let cy = cell_at y yi sy in
          ap₂ (option_eq (is_same_cell x'.nodes w)) cx.cell cy.cell
          ∙ same_cell_is lawful.arrays.arrays lawful.arrays.apart x'.nodes w cx.access.cell cy.access.cell
          (reached_sound setting nodes w.loads valued t cx.access cx.reached)
          (reached_sound setting nodes w.loads valued t cy.access cy.reached)
          ∙ ap₂ (λ c d. c == d) cx.same cy.same

      by_bound : (b && is_store x.kind) ≡ true → (b && is_store y.kind) ≡ true
          → bound (same_cell b bound ps x'.symbolic x'.nodes w t x y) (not (x.bars == y.bars)) ≡ true → IsFirst
      by_bound x_waits y_waits binds =
          elim (drained_or_never y yi y_waits) [
            | inl d ↦ before_drain d
            | inr never ↦
                elim (drained_or_never x xi x_waits) [
                  | inl d ↦
                      ordered.never t x.step t y.step
                      (record {
                        older = d.older;
                        deed = Drained q.name x.step d.cell d.value;
                        newer = d.newer;
                        there = d.there;
                        shows = shows_drain b ps t x.step q d.cell d.value there;
                      })
                      (has_step y yi) never
                  | inr never_too ↦ ordered.rest t x.step y.step (has_step x xi) (has_step y yi) never_too never less
                ]
          ]
        where
          before_drain : IsDrainedAt h q.name y.step → IsFirst
          before_drain d = by (has_drained d.older q.name x.step) refl
            where
              sx : IsStoreAt x
              sx = store_at x xi (and_parts b (is_store x.kind) x_waits).1

              sy : IsStoreAt y
              sy = store_at y yi (and_parts b (is_store y.kind) y_waits).1

              stores : DrainsAreOfStores h
              stores = (told setting moves again).stores

              next : MayDrainNext bound d.older q.name y.step d.cell d.value
              next = (follow d.older d.newer (Drained q.name y.step d.cell d.value) d.there).1.next

              issued : IsIssuedIn d.older q.name x.step sx.cell sx.value
              issued =
                  let m = step_before_drain b bound code h follow stores q.name x.step y.step sx.older sx.newer (Write sx.cell sx.value) sx.took sx.other sx.at d less in
                  record { before = sx.older; after = m.0; took = sx.took; other = sx.other; issued = m.1 }

              -- the drain is to the cell of the store
              drained_cell : sy.cell ≡ d.cell
              drained_cell =
                  let i = stores d.older d.newer q.name y.step d.cell d.value d.there in
                  let mine = Did q.name y.step (Write sy.cell sy.value) sy.took sy.other in
                  let other = Did q.name y.step (Write d.cell d.value) i.took i.other in
                  let drain = Drained q.name y.step d.cell d.value in
                  let there_mine : In mine h = subst (In mine) (sym sy.at) (in_at sy.older mine sy.newer) in
                  let there_other : In other h =
                  subst (In other) (sym d.there) (in_left other d.older (drain ∷ d.newer) (subst (In other) (sym i.issued) (in_at i.before other i.after))) in
                  ap (cell_in 0) (one_of_name h mine other (told setting moves again).apart there_mine there_other refl)

              few : y.step ≤ steps_in d.older q.name
              few =
                  let i = next.issued in
                  let d_too = Did q.name y.step (Write d.cell d.value) i.took i.other in
                  let rest = i.after ++ Drained q.name y.step d.cell d.value ∷ d.newer in
                  let two : h ≡ i.before ++ d_too ∷ rest =
                  d.there ∙ ap (λ g. g ++ Drained q.name y.step d.cell d.value ∷ d.newer) i.issued
                  ∙ append_assoc i.before (d_too ∷ i.after) (Drained q.name y.step d.cell d.value ∷ d.newer) in
                  let number = steps_after b bound code h follow i.before rest q.name y.step (Write d.cell d.value) i.took i.other two in
                  let count = ap (λ g. steps_in g q.name) i.issued ∙ steps_both i.before (d_too ∷ i.after) q.name in
                  omega (arith, number, count)

              bars_told : has_bar_between d.older q.name x.step y.step ≡ not (x.bars == y.bars)
              bars_told =
                  bars.told setting (up_to setting all d.older (Drained q.name y.step d.cell d.value ∷ d.newer) d.there) (path_thread t q there) x y xi yi
                  less few

              by : (c : Bool) → has_drained d.older q.name x.step ≡ c → IsFirst
              by true e =
                  let p = drained_at d.older q.name x.step e in
                  let first = Drained q.name x.step p.cell p.value in
                  let second = Drained q.name y.step d.cell d.value in
                  ordered.order p.older p.newer d.newer first second t x.step t y.step (d.there ∙ ap (λ g. g ++ second ∷ d.newer) p.there)
                  (shows_drain b ps t x.step q p.cell p.value there) (shows_drain b ps t y.step q d.cell d.value there)
              by false e =
                  let free = next.is_free x.step sx.cell sx.value issued e less in
                  absurd (true≢false (sym binds ∙ ap₂ (λ c f. bound c f) (same_is sx sy ∙ ap (λ c. sx.cell == c) drained_cell) (sym bars_told) ∙ free))

      kept_by : (wx : Bool) → (b && is_store x.kind) ≡ wx → (wy : Bool) → (b && is_store y.kind) ≡ wy → (over : Bool) → may_overtake y.kind ≡ over
          → (stored : Bool) → is_store y.kind ≡ stored
          → (not wx || (not over || stored && bound (same_cell b bound ps x'.symbolic x'.nodes w t x y) (not (x.bars == y.bars)))) ≡ true → IsFirst
      kept_by false x_kept false y_kept over o stored s kept = by_steps x_kept y_kept
      kept_by false x_kept true y_waits over o stored s kept = by_drain x_kept y_waits
      kept_by true x_waits wy y_is false o stored s kept = by_empty x_waits o
      kept_by true x_waits wy y_is true o false s kept = absurd (false≢true kept)
      kept_by true x_waits wy y_is true o true s kept =
          by_bound x_waits (ap₂ (λ c d. c && d) (and_parts b (is_store x.kind) x_waits).0 s) kept

      pub keeps : is_kept b bound ps x'.symbolic x'.nodes w t x y ≡ true → IsFirst
      keeps kept =
          kept_by (b && is_store x.kind) refl (b && is_store y.kind) refl (may_overtake y.kind) refl (is_store y.kind) refl kept

    -- nothing comes after the event that fails
    pub lasts : (u : ℕ) (r : Walk) → IsThread code log u r → (x f : Event) → In x q.events → In f r.events → f.kind ≡ kind.Fail → x.kind ≢ kind.Fail
        → (b && is_store x.kind) ≡ false → IsBefore ps w t x.step u f.step
    lasts u r there_too x f xi fi fails_so no_fail kept =
        by (two_places dx.older (deed x dx) dx.newer df.older (deed_of h r.name f df) df.newer (sym dx.there ∙ df.there))
      where
        dx : IsDoneIn h q.name x.step x.kind
        dx = doing x xi

        df : IsDoneIn h r.name f.step f.kind
        df = event_is_done setting moves again u r f there_too fi

        f_shows : Shows b ps (deed_of h r.name f df) u f.step
        f_shows =
            shows_step b ps u f.step r df.request df.took df.other f.kind there_too df.asks
            (ap (λ k. b && is_store k) fails_so ∙ and-false b)

        by : TwoPlaces dx.older (deed x dx) dx.newer df.older (deed_of h r.name f df) df.newer → IsBefore ps w t x.step u f.step
        by (Before between at rest) =
            ordered.order dx.older between df.newer (deed x dx) (deed_of h r.name f df) t x.step u f.step (df.there ∙ ap (λ g. g ++ (deed_of h r.name f df) ∷ df.newer) at)
            (shows x dx kept) f_shows
        by (Same at one rest) = absurd (no_fail (same_Some x.kind kind.Fail (sym dx.asks ∙ ap asked_of one ∙ df.asks ∙ ap (λ k. Some k) fails_so)))
        by (After between at rest) =
            let is_fail = failure_fails df.request df.other (df.asks ∙ ap (λ k. Some k) fails_so) in
            let gone = Did r.name f.step Fail df.took df.other in
            let there_gone : In gone dx.older =
            subst (λ g. In gone g) (sym (at ∙ ap (λ s. df.older ++ Did r.name f.step s df.took df.other ∷ between) is_fail)) (in_at df.older gone between) in
            let none = (all.along.follow dx.older dx.newer (deed x dx) dx.there).0 in
            absurd (none_fails dx.older r.name (in_mapped fails gone r.name dx.older there_gone refl) none)

  pub own_rule : (t : ℕ) → OwnRule b bound ps x'.symbolic x'.nodes w t
  own_rule t = record {
    own = λ x y hx hy less kept.
        let one : hy.0 ≡ hx.0 = same_Some hy.0 hx.0 (sym hy.1 ∙ hx.1) in
        keeps t hx.0 hx.1 x y (in_contains x hx.0.events hx.2)
        (in_contains y hx.0.events (subst (λ (r : Walk). Contains r.events y) one hy.2)) less kept;
    last = λ u x f hx hf fails_so no_fail kept.
        lasts t hx.0 hx.1 u hf.0 hf.1 x f (in_contains x hx.0.events hx.2) (in_contains f hf.0.events hf.2) fails_so no_fail kept;
  }
