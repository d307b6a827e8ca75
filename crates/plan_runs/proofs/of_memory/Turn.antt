-- The next drain, of a store whose position has come.
use Rattle.std.proofs.Common.{◌≡◌, ◌∙◌, inl, inr, ℕ, ◌<◌, ◌≤◌, ◌==◌, ℤ, true, false, cond, List, [], ◌∷◌}
use Rattle.std.proofs.Common.{Some, refl, ap, ap₂, sym, subst, arith}
use Rattle.std.specs.List.{Contains, find}
use Rattle.std.specs.Option.{option_map_or}
use Rattle.std.proofs.lemmas.Bool.{true≢false, and_parts, false_from_ne_true, eq-eqb, ne_eqb}
use Rattle.sym_steps.specs.run_history.History.{Deed, Drained, Issue, has_drained, pending_issues}
use Rattle.sym_steps.specs.run_history.Told.{steps_in}
use Rattle.sym_steps.specs.run_history.pending.Deeds.{IsIssuedIn, has_bar_between}
use Rattle.sym_steps.proofs.run_history.of_pending.Apart.{a_store}
use Rattle.sym_steps.proofs.run_history.of_pending.In.{In, all_in}
use Rattle.sym_steps.proofs.run_history.of_pending.Issues.{Rises}
use Rattle.sym_steps.proofs.run_history.of_pending.Turns.{store_pending}
use Rattle.sym_steps.specs.run_follows.Follow.{IsNextDrain}
use Rattle.condition_order.specs.path_walk.Paths.{Walk}
use Rattle.condition_order.specs.path_walk.declared.event.Event.{Event}
use Rattle.condition_order.specs.path_walk.declared.event.EventKind.{EventKind}
use Rattle.condition_order.specs.path_walk.declared.event.EventKind.TheVariants as kind
use Rattle.sym_steps.specs.path_laws.Setting.{Setting}
use Rattle.sym_steps.specs.path_laws.history.Along.{IsThread, path_thread}
use Rattle.sym_steps.proofs.path_laws.of_events.Bars.{told}
use Rattle.sym_steps.proofs.path_laws.of_events.Lists.{in_contains, contains_in}
use Rattle.condition_order.specs.sym_terms.declared.node.Node.{Node}
use Rattle.condition_order.specs.order_formula.Worlds.{World}
use Rattle.condition_order.specs.lawful_order.Memory.{is_store}
use Rattle.world_plan.specs.Going.{IsLawfulWorld, HasGone, is_pending, place}
use Rattle.world_plan.specs.Plan.{drain_of, drains_next}
use Rattle.plan_runs.proofs.of_memory.Accesses.{written, issue_asks, access_of, cells_of_steps, bound_before}
use Rattle.plan_runs.proofs.of_memory.Empty.{passed_has_drained}
use Rattle.plan_runs.proofs.of_memory.Issued.{issue_event, event_issued}
use Rattle.sym_steps.proofs.path_laws.of_history.Told.{its_run}
use Rattle.plan_runs.proofs.Histories.{history_of, valued_of}

-- with rising numbers, each issue is found by its number
found_by_number : (is : List Issue) (i : Issue) → Rises is → In i is → find (λ (y : Issue). y.number == i.number) is ≡ Some i
found_by_number [] i rises a = absurd a
found_by_number (x ∷ is) i rises (inl e) =
    ap (λ b. cond b (Some x) (find (λ (y : Issue). y.number == i.number) is)) (eq-eqb x.number i.number (ap (λ (y : Issue). y.number) e))
    ∙ ap (λ y. Some y) e
found_by_number (x ∷ is) i rises (inr a) =
    let less = all_in (λ (y : Issue). x.number < y.number) is i rises.0 a in
    ap (λ b. cond b (Some x) (find (λ (y : Issue). y.number == i.number) is)) (ne_eqb x.number i.number (λ same. omega (arith, less, same)))
    ∙ found_by_number is i rises.1 a

-- only a store waits in a buffer
is_kind_store : (k : EventKind) → is_store k ≡ true → k ≡ kind.Store
is_kind_store kind.Store e = refl
is_kind_store kind.Load e = absurd (true≢false (sym e))
is_kind_store k e = absurd (true≢false (sym e))

module _ {B : Type 0} (setting : Setting B) (nodes : List Node) (w : World) (l : IsLawfulWorld setting nodes w) (p : ℕ) (h : List Deed)
    (g : HasGone setting nodes w p h) (t : ℕ) (q : Walk) (there : IsThread setting.code setting.log t q) where
  open setting use {ops, bound, code, log}

  -- whether an issued store is still in its buffer, by its position
  pub is_waiting : (x : Event) → Contains q.events x → is_pending ops.buffered x ≡ true → p ≤ place code log w t x → has_drained h q.name x.step ≡ false
  is_waiting x i pending late =
      false_from_ne_true (has_drained h q.name x.step) (λ has. let before = (g.drained t q x there i pending).0 has in omega (arith, before, late))

  module _ (x : Event) (among : Contains q.events x) (pending : is_pending ops.buffered x ≡ true) (at : place code log w t x ≡ p)
      (done : x.step < steps_in h q.name) where
    abbrev both : (ops.buffered ≡ true) × (is_store x.kind ≡ true)
    both = and_parts ops.buffered (is_store x.kind) pending

    abbrev store : x.kind ≡ kind.Store
    store = is_kind_store x.kind both.1

    issued : (c : ℕ) × (v : ℤ) × IsIssuedIn h q.name x.step c v
    issued =
        event_issued setting (history_of l g) (path_thread t q there) x (in_contains x q.events among) store done

    waits : has_drained h q.name x.step ≡ false
    waits = is_waiting x among pending (omega (arith, at))

    -- the stores bound before this one have drained
    free : (c : ℕ) (v : ℤ) → IsIssuedIn h q.name x.step c v → (j d : ℕ) (u : ℤ) → IsIssuedIn h q.name j d u → has_drained h q.name j ≡ false → j < x.step
        → bound (d == c) (has_bar_between h q.name j x.step) ≡ true → ⊥
    free c v mine j d u its none less binds =
        let y = issue_event setting (history_of l g) (path_thread t q there) j d u its in
        let i = contains_in y.0 q.events y.1 in
        let a = access_of setting nodes w l (valued_of l g) (path_thread t q there) j (written d u) (issue_asks h q.name j d u its) in
        let b = access_of setting nodes w l (valued_of l g) (path_thread t q there) x.step (written c v) (issue_asks h q.name x.step c v mine) in
        let cells = cells_of_steps setting nodes w l (valued_of l g) t j x.step (written d u) (written c v) a b y.0 x y.2 refl in
        let lt : y.0.step < x.step = omega (arith, y.2, less) in
        let bars = told setting (history_of l g) (path_thread t q there) y.0 x y.1 (in_contains x q.events among) lt
        (omega (arith, done)) in
        let before = bound_before setting nodes w l t q y.0 x there i among lt store
        (ap₂ bound cells (sym bars ∙ ap (λ m. has_bar_between h q.name m x.step) y.2) ∙ binds) in
        let drained = passed_has_drained setting nodes w l p h g t q there both.0 y.0 y.1 y.3 (omega (arith, before, at)) in
        true≢false (sym drained ∙ ap (has_drained h q.name) y.2 ∙ none)

    pub has_turn : (c : ℕ) × (v : ℤ) × IsNextDrain ops.buffered bound h q.name x.step c v
        × (drains_next ops.buffered h q.name x.step ≡ Drained q.name x.step c v ∷ [])
    has_turn =
        let i = issued in
        let one = a_store x.step (record { cell = i.0; value = i.1 }) in
        let run = its_run setting (history_of l g) in
        let waiting = subst (λ b. In one (pending_issues b h q.name)) (sym both.0) (store_pending h q.name x.step i.0 i.1 i.2 waits) in (
          i.0,
          i.1,
          record {
            buffers = both.0;
            next = record {
              issued = i.2;
              pending = waits;
              is_free = λ j d u its none less. false_from_ne_true _ (free i.0 i.1 i.2 j d u its none less);
            };
          },
          ap (λ o. option_map_or (λ (z : Issue). drain_of q.name z.number z.what) o [])
              (found_by_number (pending_issues ops.buffered h q.name) one (run.told.tells.deeds.buffers.numbers q.name).rises waiting),
        )
