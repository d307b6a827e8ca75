-- What a load sees when its event comes: the last store to its cell in its thread's buffer, or else
-- the last one in memory.
use Rattle.std.proofs.Common.{◌≡◌, ◌∙◌, ◌⊎◌, inl, inr, ℕ, ◌<◌, ◌≤◌, ◌==◌, ℤ, not, List, [], ◌∷◌, ◌++◌}
use Rattle.std.proofs.Common.{Option, Some, None, refl, ap, ap₂, sym, subst, arith}
use Rattle.std.specs.Prelude.{is_some, unwrap_or, IsSome}
use Rattle.std.specs.List.{Contains, filter_map}
use Rattle.std.proofs.lemmas.Bool.{true≢false, eq-eqb, eqb-true, cases_lt}
use Rattle.std.proofs.lemmas.Option.{same_Some}
use Rattle.condition_order.specs.tc_base.Names.{Name}
use Rattle.condition_order.specs.tc_base.declared.request.Request.TheVariants.{Write}
use Rattle.sym_steps.specs.run_history.History.{Deed, Did, has_drained}
use Rattle.sym_steps.specs.run_history.Last.{IsLast, brings}
use Rattle.sym_steps.specs.run_history.Told.{steps_in, value_in}
use Rattle.sym_steps.proofs.run_history.Last.{cells_have_last, cells_begin}
use Rattle.sym_steps.specs.run_history.pending.Deeds.{name_of, IsIssuedIn, own_value}
use Rattle.sym_steps.proofs.run_history.of_pending.In.{In, in_at}
use Rattle.sym_steps.proofs.run_history.of_pending.Own.{own_has_last, own_has_none}
use Rattle.sym_steps.specs.run_follows.Follow.{seen_in}
use Rattle.condition_order.specs.path_walk.Paths.{Walk, paths_of}
use Rattle.condition_order.specs.path_walk.declared.event.Event.{Event}
use Rattle.condition_order.specs.path_walk.declared.event.EventKind.TheVariants as kind
use Rattle.sym_steps.specs.path_laws.Setting.{Setting}
use Rattle.sym_steps.specs.path_laws.history.Along.{IsThread, path_thread}
use Rattle.sym_steps.proofs.path_laws.of_events.Lists.{in_contains, contains_in}
use Rattle.condition_order.specs.sym_terms.declared.node.Node.{Node}
use Rattle.condition_order.specs.sym_exec.Alone.{Asked, asked_in}
use Rattle.condition_order.specs.sym_exec.declared.symbolic.Access.{Access}
use Rattle.sym_steps.specs.sym_laws.Valued.{found}
use Rattle.sym_steps.specs.accesses.Asked.{IsAskedIn, IsReachedIn}
use Rattle.sym_steps.proofs.of_accesses.Asked.{access_asked}
use Rattle.sym_steps.proofs.of_accesses.Reached.{cell_begins}
use Rattle.condition_order.specs.order_formula.Worlds.{World}
use Rattle.condition_order.specs.lawful_order.Cells.{value_at_start}
use Rattle.condition_order.specs.lawful_order.Events.{IsBefore, place_of}
use Rattle.condition_order.specs.lawful_order.Reads.{HasAccess, Sees, TakesFrom, TakesFirst}
use Rattle.world_plan.specs.Going.{IsLawfulWorld, NextEvent}
use Rattle.world_plan.specs.Sights.{Sight, sight_of}
use Rattle.world_plan.proofs.Threads.{one_thread}
use Rattle.plan_runs.proofs.of_memory.Accesses.{written, issue_asks, executed, IsOfStep, access_of, one_cell, cells_of_steps, bound_before}
use Rattle.plan_runs.proofs.of_memory.Empty.{passed_has_drained}
use Rattle.plan_runs.proofs.of_memory.Issued.{issue_event, steps_rise}
use Rattle.plan_runs.proofs.of_memory.Lists.{last_or_none, none_gives, at_or_before}
use Rattle.plan_runs.proofs.of_memory.Shown.{shown_before}
use Rattle.plan_runs.proofs.of_memory.Writes.{IsInMemory, IsInBuffer, where_written, IsStoreOf, store_of, IsOwnStore, own_store, own_gives}
use Rattle.plan_runs.proofs.Histories.{history_of, valued_of}

-- something that an option has
some_of : {X : Type 0} (o : Option X) → IsSome o → (x : X) × (o ≡ Some x)
some_of None e = absurd (true≢false (sym e))
some_of (Some x) e = (x, refl)

module _ {B : Type 0} (setting : Setting B) (nodes : List Node) (w : World) (l : IsLawfulWorld setting nodes w) (e : NextEvent setting nodes w)
    (a : Access) (has : HasAccess (found setting.code setting.log nodes).symbolic e.thread.index a) (step : a.step ≡ e.event.step)
    (reached : IsReachedIn setting.code setting.log nodes e.deeds e.thread.index a) where
  open setting use {ops, bound, code, log}
  open e use {position as p, deeds as h, gone as g, thread, event as x, among}
  open thread use {index as t, walk as q, there as t_there}

  abbrev At : (u k : ℕ) → ℕ
  At u k = place_of (paths_of code log) w u k

  abbrev asks : Access → Asked
  asks b = asked_in (found code log nodes).nodes w.loads b

  abbrev cell : ℕ
  cell = (asks a).cell

  abbrev SeesOf : ℕ → Access → Type 0
  SeesOf u b = Sees code (paths_of code log) (found code log nodes).symbolic (found code log nodes).nodes w t a u b

  abbrev OfStep : (u k : ℕ) → Asked → Type 0
  OfStep u k y = IsOfStep setting nodes w l (valued_of l g) u k y

  abbrev InMemory : (u k c : ℕ) → ℤ → Type 0
  InMemory u k c v = IsInMemory setting (history_of l g) u k c v

  abbrev InBuffer : Name → (k c : ℕ) → ℤ → Type 0
  InBuffer n k c v = IsInBuffer setting (history_of l g) n k c v

  at_place : At t a.step ≡ p
  at_place = ap (At t) step ∙ e.at

  step_of : (u : ℕ) (v : Walk) → IsThread code log u v → (k : ℕ) (y : Asked) → IsAskedIn h v.name k y → OfStep u k y
  step_of u v there k y d = access_of setting nodes w l (valued_of l g) (path_thread u v there) k y d

  -- a store of the thread that waits has no earlier place
  waits_late : (k c : ℕ) (v : ℤ) → InBuffer q.name k c v → p ≤ At t k
  waits_late k c v b =
      let y = issue_event setting (history_of l g) thread k c v b.issued in
      elim (cases_lt (At t k) p) [
        | inl before ↦
            let drained = passed_has_drained setting nodes w l p h g t q t_there b.buffered y.0 y.1 y.3
            (subst (λ j. At t j < p) (sym y.2) before) in
            absurd (true≢false (sym drained ∙ ap (has_drained h q.name) y.2 ∙ b.waits))
        | inr late ↦ late
      ]

  -- A store that the load sees is done: it is in memory, or waits in the thread's own buffer.
  record IsSeenAt (u k : ℕ) (v : ℤ) : Type 0 where
    at : InMemory u k cell v ⊎ ((t ≡ u) × InBuffer q.name k cell v)

  -- a store of a thread that is done is in memory or in the thread's buffer
  where_done : (u : ℕ) (b : Access) (z : Walk) → IsThread code log u z → SeesOf u b → b.step < steps_in h z.name
      → (v : ℤ) × ((asks b).writes ≡ Some v) × (InMemory u b.step cell v ⊎ InBuffer z.name b.step cell v)
  where_done u b z there sees done =
      let c = sees.there in
      let v = some_of (asks b).writes sees.writes in
      let asked = access_asked setting nodes w.loads (valued_of l g) (record { thread = path_thread u z there; course = c.0; executed = c.1 }) b
      (in_contains b c.0.accesses c.2) done in
      let mine : IsReachedIn code log nodes h u b =
      record { walk = z; course = c.0; thread = there; there = c.1; among = c.2; reached = inl done } in
      let one = one_cell setting nodes w l (valued_of l g) u t b a mine reached in
      let same : (asks b).cell ≡ cell = eqb-true (asks b).cell cell (sym one ∙ sees.cell) in
      let at = where_written setting (history_of l g) u z there b.step (asks b) v.0 asked v.1 in
      (v.0, v.1, subst (λ k. InMemory u b.step k v.0 ⊎ InBuffer z.name b.step k v.0) same at)

  seen_at : (u : ℕ) (b : Access) → SeesOf u b → (v : ℤ) × ((asks b).writes ≡ Some v) × IsSeenAt u b.step v
  seen_at u b sees = by sees.before
    where
      own : (u : ℕ) → t ≡ u → SeesOf u b → b.step < a.step → (v : ℤ) × ((asks b).writes ≡ Some v) × IsSeenAt u b.step v
      own u same sees less =
          let there : IsThread code log u q = subst (λ i. IsThread code log i q) same t_there in
          let d = where_done u b q there sees (omega (arith, less, step, e.steps)) in (
            d.0,
            d.1,
            record {
              at = elim d.2 [
                | inl m ↦ inl m
                | inr o ↦ inr (same, o)
              ];
            },
          )

      by : IsBefore (paths_of code log) w u b.step t a.step ⊎ ((u ≡ t) × (b.step < a.step))
          → (v : ℤ) × ((asks b).writes ≡ Some v) × IsSeenAt u b.step v
      by (inr s) = own u (sym s.0) sees s.1
      by (inl before) =
          let y = (executed setting nodes w l).accesses u b sees.there in
          let z = y.1 in
          let lt : At u b.step < p = omega (arith, before, at_place) in
          let done = g.did u z.0 y.0 z.1 z.2 (subst (λ k. At u k < p) (sym y.2) lt) in
          let d = where_done u b z.0 z.1 sees (omega (arith, done, y.2)) in (
            d.0,
            d.1,
            record {
              at = elim d.2 [
                | inl m ↦ inl m
                | inr o ↦ absurd (waiting z.0 z.1 y.0 z.2 y.2 lt o)
              ];
            },
          )
        where
          waiting : (z : Walk) → IsThread code log u z → (y : Event) → Contains z.events y → y.step ≡ b.step → At u b.step < p
              → {v : ℤ} → InBuffer z.name b.step cell v → ⊥
          waiting z there y i number lt {v} o =
              let s = issue_event setting (history_of l g) (path_thread u z there) b.step cell v o.issued in
              let drained = passed_has_drained setting nodes w l p h g u z there o.buffered s.0 s.1 s.3
              (subst (λ j. At u j < p) (sym s.2) lt) in
              true≢false (sym drained ∙ ap (has_drained h z.name) s.2 ∙ o.waits)

  -- a store in memory has come before
  memory_before : (u k : ℕ) (v : ℤ) → InMemory u k cell v → At u k < p
  memory_before u k v m = shown_before setting nodes w l p h g m.older m.newer m.deed u k m.there m.shows

  -- the load sees each store to its cell whose place or step is before its own
  sees_it : (u k : ℕ) (y : Asked) (v : ℤ) (b : OfStep u k y) → y.cell ≡ cell → y.writes ≡ Some v → (At u k < p) ⊎ ((u ≡ t) × (k < a.step)) → SeesOf u b.access
  sees_it u k y v b to writes before = record {
    there = b.has;
    writes = ap (λ (z : Asked). is_some z.writes) b.asked ∙ ap is_some writes;
    cell =
        one_cell setting nodes w l (valued_of l g) u t b.access a b.reached reached
        ∙ eq-eqb (asks b.access).cell cell (ap (λ (z : Asked). z.cell) b.asked ∙ to);
    before = elim before [
      | inl lt ↦ inl (let place = ap (At u) b.step in omega (arith, lt, place, at_place))
      | inr s ↦ inr (s.0, omega (arith, s.1, b.step))
    ];
  }

  -- The value that the load takes.
  module _ (v : ℤ) (takes : (asks a).takes ≡ Some v)
      (rule : ((u : ℕ) × (b : Access) × TakesFrom code (paths_of code log) (found code log nodes).symbolic (found code log nodes).nodes w t a u b)
      ⊎ TakesFirst code (paths_of code log) (found code log nodes).symbolic (found code log nodes).nodes w t a) where
    -- the value is that of a store that the load sees and that no other store it sees comes after
    value_is : (u k : ℕ) (y : Asked) (b : OfStep u k y) (z : ℤ) → y.writes ≡ Some z → SeesOf u b.access
        → ((s : ℕ) (d : Access) → SeesOf s d → At u k < At s d.step → ⊥) → z ≡ v
    value_is u k y b z writes sees latest = by rule
      where
        by : ((s : ℕ) × (d : Access) × TakesFrom code (paths_of code log) (found code log nodes).symbolic (found code log nodes).nodes w t a s d)
            ⊎ TakesFirst code (paths_of code log) (found code log nodes).symbolic (found code log nodes).nodes w t a → z ≡ v
        by (inr first) = absurd (first.sees u b.access sees)
        by (inl o) =
            elim (o.2.last u b.access sees) [
              | inl same ↦
                  same_Some z v
                  (sym writes ∙ ap (λ (r : Asked). r.writes) (sym b.asked) ∙ ap (λ (d : Access). (asks d).writes) same.1 ∙ sym o.2.takes ∙ takes)
              | inr before ↦ let place = ap (At u) b.step in absurd (latest o.0 o.1 o.2.sees (omega (arith, before, place)))
            ]

    -- the value is the initial one if the load sees no store
    value_first : ((s : ℕ) (d : Access) → SeesOf s d → ⊥) → value_at_start code a.cell ≡ v
    value_first none = by rule
      where
        by : ((s : ℕ) × (d : Access) × TakesFrom code (paths_of code log) (found code log nodes).symbolic (found code log nodes).nodes w t a s d)
            ⊎ TakesFirst code (paths_of code log) (found code log nodes).symbolic (found code log nodes).nodes w t a → value_at_start code a.cell ≡ v
        by (inl o) = absurd (none o.0 o.1 o.2.sees)
        by (inr first) = same_Some _ v (sym first.takes ∙ takes)

    abbrev own : Deed → Option ℤ
    own = own_value ops.buffered h q.name cell

    abbrev reaches_it : Deed → Option ℤ
    reaches_it = brings ops.buffered cell

    -- a waiting store of the thread to the cell is among its own
    own_there : (k : ℕ) (z : ℤ) (b : InBuffer q.name k cell z) → own (Did q.name k (Write cell z) b.issued.took b.issued.other) ≡ Some z
    own_there k z b = own_gives ops.buffered h q.name k cell z b.issued.took b.issued.other b.buffered b.waits

    -- The newest of the thread's own stores to the cell.
    module _ (z : ℤ) (last : IsLast own h z) where
      abbrev s : IsOwnStore ops.buffered h q.name cell z last.deed
      s = own_store ops.buffered h q.name cell last.deed z last.gives

      abbrev k : ℕ
      k = s.number

      own_at : h ≡ last.older ++ Did q.name k (Write cell z) s.took s.other ∷ last.newer
      own_at = last.there ∙ ap (λ d. last.older ++ d ∷ last.newer) s.is

      abbrev issue : IsIssuedIn h q.name k cell z
      issue = record { before = last.older; after = last.newer; took = s.took; other = s.other; issued = own_at }

      late : p ≤ At t k
      late = waits_late k cell z (record { buffered = s.buffered; issued = issue; waits = s.waits })

      abbrev y : (y : Event) × In y q.events × (y.step ≡ k) × (y.kind ≡ kind.Store) × (k < steps_in h q.name)
      y = issue_event setting (history_of l g) thread k cell z issue

      mine : OfStep t k (written cell z)
      mine = step_of t q t_there k (written cell z) (issue_asks h q.name k cell z issue)

      -- an older store of the thread has an earlier place
      older_before : (j : ℕ) (c : ℤ) → IsIssuedIn h q.name j cell c → j < k → At t j < At t k
      older_before j c i less =
          let f = issue_event setting (history_of l g) thread j cell c i in
          let its = step_of t q t_there j (written cell c) (issue_asks h q.name j cell c i) in
          let cells = cells_of_steps setting nodes w l (valued_of l g) t j k (written cell c) (written cell z) its mine f.0 y.0 f.2 y.2 in
          let lt : f.0.step < y.0.step = omega (arith, f.2, y.2, less) in
          let before = bound_before setting nodes w l t q f.0 y.0 t_there (contains_in f.0 q.events f.1) (contains_in y.0 q.events y.1) lt y.3
          (ap (λ b. bound b (not (f.0.bars == y.0.bars))) (cells ∙ eq-eqb cell cell refl) ∙ setting.laws.same_cell (not (f.0.bars == y.0.bars))) in
          let first = ap (At t) f.2 in
          let second = ap (At t) y.2 in
          omega (arith, before, first, second)

      -- no waiting store comes after the newest one
      none_waits_after : (j : ℕ) (c : ℤ) → InBuffer q.name j cell c → At t k < At t j → ⊥
      none_waits_after j c b after =
          let its = Did q.name j (Write cell c) b.issued.took b.issued.other in
          elim (at_or_before own last.older last.deed last.newer b.issued.before its b.issued.after c (sym last.there ∙ b.issued.issued) last.last
          (own_there j c b)) [
            | inl one ↦ let same = ap (At t) (ap (λ (d : Deed). (name_of d).number) (one ∙ s.is)) in omega (arith, after, same)
            | inr r ↦
                let less = steps_rise setting (history_of l g) b.issued.before r.0 last.newer q.name j k
                (Write cell c) (Write cell z) b.issued.took s.took b.issued.other s.other
                (own_at ∙ ap (λ f. f ++ Did q.name k (Write cell z) s.took s.other ∷ last.newer) r.1) in
                let before = older_before j c b.issued less in
                omega (arith, after, before)
          ]

      none_after : (u : ℕ) (d : Access) → SeesOf u d → At t k < At u d.step → ⊥
      none_after u d sees after =
          let o = seen_at u d sees in
          elim o.2.at [
            | inl m ↦ let before = memory_before u d.step o.0 m in omega (arith, before, after, late)
            | inr b ↦ let same : At t d.step ≡ At u d.step = ap (λ i. At i d.step) b.0 in none_waits_after d.step o.0 b.1 (omega (arith, after, same))
          ]

      from_own : z ≡ v
      from_own =
          value_is t k (written cell z) mine z refl
          (sees_it t k (written cell z) z mine refl refl (inr (refl, omega (arith, y.4, step, e.steps)))) none_after

    -- The thread has no store to the cell.
    module _ (none : filter_map own h ≡ []) where
      not_own : (k : ℕ) (c : ℤ) → InBuffer q.name k cell c → ⊥
      not_own k c b =
          let deed = Did q.name k (Write cell c) b.issued.took b.issued.other in
          none_gives own h deed c none (subst (In deed) (sym b.issued.issued) (in_at b.issued.before deed b.issued.after)) (own_there k c b)

      -- the last store that reached the cell in memory
      module _ (z : ℤ) (last : IsLast reaches_it h z) where
        abbrev d : IsStoreOf setting (history_of l g) cell z last.deed
        d = store_of setting (history_of l g) last.older last.newer last.deed cell z last.there last.gives

        its_step : OfStep d.place d.number d.asked
        its_step = step_of d.place d.walk d.thread d.number d.asked d.done

        none_later : (u : ℕ) (b : Access) → SeesOf u b → At d.place d.number < At u b.step → ⊥
        none_later u b sees after =
            let o = seen_at u b sees in
            elim o.2.at [
              | inr i ↦ not_own b.step o.0 i.1
              | inl m ↦
                  elim (at_or_before reaches_it last.older last.deed last.newer m.older m.deed m.newer o.0 (sym last.there ∙ m.there) last.last m.gives) [
                    | inl one ↦
                        let sight = same_Some _ _ (sym m.shows.sight ∙ ap (sight_of ops.buffered) one ∙ d.shows.sight) in
                        let thread = one_thread code log setting.log_is u d.place m.shows.walk d.shows.walk m.shows.there d.shows.there
                        (ap (λ (f : Sight). f.thread) sight) in
                        let same : At u b.step ≡ At d.place d.number = ap₂ At thread (ap (λ (f : Sight). f.step) sight) in
                        omega (arith, after, same)
                    | inr r ↦
                        let before = g.order m.older r.0 last.newer m.deed last.deed u b.step d.place d.number
                        (last.there ∙ ap (λ f. f ++ last.deed ∷ last.newer) r.1) m.shows d.shows in
                        omega (arith, after, before)
                  ]
            ]

        from_memory : z ≡ v
        from_memory =
            value_is d.place d.number d.asked its_step z d.writes
            (sees_it d.place d.number d.asked z its_step d.cell d.writes
            (inl (shown_before setting nodes w l p h g last.older last.newer last.deed d.place d.number last.there d.shows)))
            none_later

      -- no store reached the cell in memory
      from_start : filter_map reaches_it h ≡ [] → value_at_start code a.cell ≡ v
      from_start empty = value_first (λ u b sees.
          let o = seen_at u b sees in
          elim o.2.at [
            | inr i ↦ not_own b.step o.0 i.1
            | inl m ↦ none_gives reaches_it h m.deed o.0 empty (subst (In m.deed) (sym m.there) (in_at m.older m.deed m.newer)) m.gives
          ])

      memory_is : value_in ops.buffered code h cell ≡ v
      memory_is = elim (last_or_none reaches_it h) [
        | inl o ↦ cells_have_last ops.buffered code h cell o.0 o.1 ∙ from_memory o.0 o.1
        | inr empty ↦
            cells_begin ops.buffered code h cell empty
            ∙ sym (cell_begins setting nodes w.loads (valued_of l g) t a reached)
            ∙ from_start empty
      ]

    pub seen_is : seen_in ops.buffered code h q.name cell ≡ v
    seen_is = elim (last_or_none own h) [
      | inl o ↦ ap (λ z. unwrap_or z (value_in ops.buffered code h cell)) (own_has_last ops.buffered h q.name cell o.0 o.1) ∙ from_own o.0 o.1
      | inr none ↦ ap (λ z. unwrap_or z (value_in ops.buffered code h cell)) (own_has_none ops.buffered h q.name cell none) ∙ memory_is none
    ]
