-- The steps and the drains of a history along the paths.
use Rattle.std.proofs.Common.{◌≡◌, ◌∙◌, ℕ, ◌+◌, ◌<◌, ◌==◌, ℤ, true, List, ◌∷◌, ◌++◌, cond}
use Rattle.std.proofs.Common.{Option, Some, None, refl, ap, ap₂, sym, subst, arith, append_assoc}
use Rattle.std.specs.Prelude.{option_map}
use Rattle.std.proofs.lemmas.Bool.{false≢true, and_parts, and_from, eqb-true, eq-eqb}
use Rattle.std.proofs.lemmas.Option.{none-some}
use Rattle.condition_order.specs.tc_base.Names.{Name}
use Rattle.condition_order.specs.tc_base.declared.request.Request.{Request}
use Rattle.condition_order.specs.tc_base.declared.request.Request.TheVariants.{Write, Start}
use Rattle.condition_order.proofs.run_laws.Names.{is_same, same_self}
use Rattle.sym_steps.specs.run_history.History.{Deed, Did, Drained, drains, has_drained, same}
use Rattle.sym_steps.specs.run_history.Told.{steps_in}
use Rattle.sym_steps.specs.run_history.pending.Deeds.{IsIssuedIn}
use Rattle.sym_steps.proofs.run_history.of_pending.Apart.{Named}
use Rattle.sym_steps.proofs.run_history.of_pending.In.{In, in_at, in_split, any_in, in_any, one_of_name}
use Rattle.condition_order.specs.path_walk.declared.event.Event.{Event}
use Rattle.condition_order.specs.path_walk.declared.event.EventKind.TheVariants as kind
use Rattle.sym_steps.specs.path_laws.Setting.{Setting}
use Rattle.sym_steps.specs.path_laws.Deeds.{kind_of}
use Rattle.sym_steps.specs.path_laws.history.Along.{IsNameOfThread, HistoryAlong, PathThread}
use Rattle.sym_steps.proofs.path_laws.of_history.Told.{RunOf, its_run, up_to}
use Rattle.sym_steps.proofs.path_laws.of_history.Walks.{thread_named}
use Rattle.sym_steps.specs.path_laws.events.Done.{IsDoneIn}
use Rattle.sym_steps.proofs.path_laws.of_events.Events.{event_done, done_event}
use Rattle.sym_steps.proofs.path_laws.of_events.Steps.{steps_both, steps_first}

-- a request that is a store writes a value to a cell
no_create : (o : Option ℕ) → option_map kind.Create o ≡ Some kind.Store → ⊥
no_create None e = none-some _ e
no_create (Some k) e = cc

store_asked : (r : Request) (other : Option Name) → kind_of r other ≡ Some kind.Store → (c : ℕ) × (v : ℤ) × (r ≡ Write c v)
store_asked (Write c v) other e = (c, v, refl)
store_asked (Start f) other e = absurd (no_create _ e)
store_asked r other e = absurd cc

-- an issued store, as an event that is done
pub issued_done : (h : List Deed) (n : Name) (k c : ℕ) (v : ℤ) → IsIssuedIn h n k c v → IsDoneIn h n k kind.Store
issued_done h n k c v i = record { older = i.before; newer = i.after; request = Write c v; took = i.took; other = i.other; there = i.issued; asks = refl }

pub done_issued : (h : List Deed) (n : Name) (k : ℕ) → IsDoneIn h n k kind.Store → (c : ℕ) × (v : ℤ) × IsIssuedIn h n k c v
done_issued h n k d =
    let s = store_asked d.request d.other d.asks in (
      s.0,
      s.1,
      record {
        before = d.older;
        after = d.newer;
        took = d.took;
        other = d.other;
        issued = d.there ∙ ap (λ r. d.older ++ Did n k r d.took d.other ∷ d.newer) s.2;
      },
    )

-- a store issued in the first deeds is issued in all
issued_in_all : (older newer : List Deed) (n : Name) (k c : ℕ) (v : ℤ) → IsIssuedIn older n k c v → IsIssuedIn (older ++ newer) n k c v
issued_in_all older newer n k c v i = record {
  before = i.before;
  after = i.after ++ newer;
  took = i.took;
  other = i.other;
  issued = ap (λ g. g ++ newer) i.issued ∙ append_assoc i.before (Did n k (Write c v) i.took i.other ∷ i.after) newer;
}

-- a deed that drains a step of a thread
record IsDrainOf (d : Deed) (n : Name) (k : ℕ) : Type 0 where
  cell : ℕ
  value : ℤ
  is : d ≡ Drained n k cell value

drain_is : (n : Name) (k : ℕ) (d : Deed) → drains n k d ≡ true → IsDrainOf d n k
drain_is n k (Drained q j c v) e =
    let both = and_parts (same n q) (k == j) e in
    record { cell = c; value = v; is = ap₂ (λ m i. Drained m i c v) (sym (is_same n q both.0)) (sym (eqb-true k j both.1)) }
drain_is n k (Did q j r v o) e = absurd (false≢true e)

-- the drain of a thread's step
pub record IsDrainedIn (h : List Deed) (n : Name) (k c : ℕ) (v : ℤ) : Type 0 where
  pub older : List Deed
  pub newer : List Deed
  pub there : h ≡ older ++ Drained n k c v ∷ newer

module _ {B : Type 0} (setting : Setting B) (history : HistoryAlong setting) where
  open setting use {machine, ops, code, log}
  open history use {deeds as h, along}

  abbrev r : RunOf machine log h
  r = its_run setting history

  named : Named h
  named = r.told.tells.deeds.named

  -- a thread that does a step is one of the paths
  pub step_named : (older newer : List Deed) (n : Name) (k : ℕ) (q : Request) (took : ℤ) (other : Option Name) → h ≡ older ++ Did n k q took other ∷ newer
      → IsNameOfThread code log n
  step_named older newer n k q took other at =
      let left = r.told.threads older newer n k q took other at in
      thread_named setting (up_to setting history older (Did n k q took other ∷ newer) at) n left.there

  pub issuer_named : (n : Name) (k c : ℕ) (v : ℤ) → IsIssuedIn h n k c v → IsNameOfThread code log n
  issuer_named n k c v i = step_named i.before i.after n k (Write c v) i.took i.other i.issued

  -- of two steps of a thread, the first has the lesser number
  pub steps_rise : (older between newer : List Deed) (n : Name) (j k : ℕ) (p q : Request) (a b : ℤ) (o u : Option Name)
      → h ≡ (older ++ Did n j p a o ∷ between) ++ Did n k q b u ∷ newer → j < k
  steps_rise older between newer n j k p q a b o u at =
      let first = along.follow older (between ++ Did n k q b u ∷ newer) (Did n j p a o)
      (at ∙ append_assoc older (Did n j p a o ∷ between) (Did n k q b u ∷ newer)) in
      let second = along.follow (older ++ Did n j p a o ∷ between) newer (Did n k q b u) at in
      let count : steps_in (older ++ Did n j p a o ∷ between) n ≡ steps_in older n + (1 + steps_in between n) =
      steps_both older (Did n j p a o ∷ between) n
      ∙ ap (λ m. steps_in older n + m)
      (steps_first (Did n j p a o) between n ∙ ap (λ t. cond t 1 0 + steps_in between n) (same_self n n refl)) in
      omega (arith, first.1.number, second.1.number, count)

  -- a drain is that of a store that was issued
  pub drain_issued : (n : Name) (k c : ℕ) (v : ℤ) → IsDrainedIn h n k c v
      → IsIssuedIn h n k c v × (ops.buffered ≡ true) × (has_drained h n k ≡ true)
  drain_issued n k c v d =
      let deed = Drained n k c v in
      let next = (along.follow d.older d.newer deed d.there).1 in (
        subst (λ g. IsIssuedIn g n k c v) (sym d.there) (issued_in_all d.older (deed ∷ d.newer) n k c v next.next.issued),
        next.buffers,
        in_any (drains n k) deed h (subst (In deed) (sym d.there) (in_at d.older deed d.newer)) (and_from (same n n) (k == k) (same_self n n refl) (eq-eqb k k refl)),
      )

  -- the drain of an issued store has its cell and its value
  pub issue_drained : (n : Name) (k c : ℕ) (v : ℤ) → IsIssuedIn h n k c v → has_drained h n k ≡ true → IsDrainedIn h n k c v
  issue_drained n k c v i has =
      let p = any_in (drains n k) h has in
      let d = drain_is n k p.one p.passes in
      let s = in_split p.one h p.there in
      let there : h ≡ s.older ++ Drained n k d.cell d.value ∷ s.newer = s.there ∙ ap (λ x. s.older ++ x ∷ s.newer) d.is in
      let j = (drain_issued n k d.cell d.value (record { older = s.older; newer = s.newer; there = there })).0 in
      let mine = Did n k (Write c v) i.took i.other in
      let its = Did n k (Write d.cell d.value) j.took j.other in
      let same : its ≡ mine =
      one_of_name h its mine named.apart (subst (In its) (sym j.issued) (in_at j.before its j.after)) (subst (In mine) (sym i.issued) (in_at i.before mine i.after))
      refl in
      let cell : d.cell ≡ c = cc in
      let value : d.value ≡ v = cc in
      record { older = s.older; newer = s.newer; there = there ∙ ap₂ (λ x y. s.older ++ Drained n k x y ∷ s.newer) cell value }

  module _ (thread : PathThread code log) where
    open thread use {walk as q}

    -- an issued store is an event of its thread
    pub issue_event : (k c : ℕ) (v : ℤ) → IsIssuedIn h q.name k c v
        → (x : Event) × In x q.events × (x.step ≡ k) × (x.kind ≡ kind.Store) × (k < steps_in h q.name)
    issue_event k c v i = done_event setting history thread k kind.Store (issued_done h q.name k c v i)

    -- a store that is done was issued
    pub event_issued : (x : Event) → In x q.events → x.kind ≡ kind.Store → x.step < steps_in h q.name
        → (c : ℕ) × (v : ℤ) × IsIssuedIn h q.name x.step c v
    event_issued x i store before =
        done_issued h q.name x.step
        (subst (IsDoneIn h q.name x.step) store (event_done setting history thread x i before))
