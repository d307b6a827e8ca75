-- What has taken place lies before the position that the history has reached.
use Rattle.std.proofs.Common.{◌≡◌, ◌∙◌, inl, inr, ℕ, ◌<◌, ◌≤◌, ◌&&◌, ℤ, Bool, true, false, cond, List, [], ◌∷◌, ◌++◌}
use Rattle.std.proofs.Common.{Option, Some, None, refl, ap, ap₂, sym, subst, arith}
use Rattle.std.specs.Prelude.{option_and_then}
use Rattle.std.proofs.lemmas.Bool.{true≢false}
use Rattle.std.proofs.lemmas.Option.{none-some, same_Some}
use Rattle.condition_order.specs.tc_base.Names.{Name}
use Rattle.condition_order.specs.tc_base.declared.request.Request.{Request}
use Rattle.sym_steps.specs.run_history.History.{Deed, Did, Drained, has_drained}
use Rattle.sym_steps.proofs.run_history.of_pending.Apart.{last_or_before}
use Rattle.condition_order.specs.path_walk.Paths.{Walk, paths_of}
use Rattle.condition_order.specs.path_walk.declared.event.EventKind.{EventKind}
use Rattle.sym_steps.specs.path_laws.Setting.{Setting}
use Rattle.sym_steps.specs.path_laws.Deeds.{kind_of}
use Rattle.sym_steps.specs.path_laws.history.Along.{IsThread, path_thread}
use Rattle.sym_steps.specs.path_laws.events.Done.{IsDoneIn}
use Rattle.sym_steps.proofs.path_laws.of_events.Events.{done_event}
use Rattle.sym_steps.proofs.path_laws.of_events.Lists.{contains_in}
use Rattle.condition_order.specs.sym_terms.declared.node.Node.{Node}
use Rattle.condition_order.specs.order_formula.Worlds.{World}
use Rattle.condition_order.specs.lawful_order.Events.{place_of}
use Rattle.condition_order.specs.lawful_order.Memory.{is_store}
use Rattle.world_plan.specs.Going.{IsLawfulWorld, HasGone}
use Rattle.world_plan.specs.Sights.{Sight, sight_of, Shows, AreInOrder}
use Rattle.world_plan.proofs.Threads.{one_thread}
use Rattle.plan_runs.proofs.of_memory.Issued.{IsDrainedIn, drain_issued, issue_event}
use Rattle.plan_runs.proofs.Histories.{history_of}

abbrev pub the_sight : Sight → Sight
the_sight s = s

-- a step that is seen is an event, and not a store that goes into a buffer
pub record IsStepSeen (buffered : Bool) (n : Name) (j : ℕ) (r : Request) (other : Option Name) (s : Sight) : Type 0 where
  pub kind : EventKind
  pub asks : kind_of r other ≡ Some kind
  pub unbuffered : (buffered && is_store kind) ≡ false
  pub sight : the_sight (record { thread = n; step = j }) ≡ s

pub step_seen : (buffered : Bool) (n : Name) (j : ℕ) (r : Request) (took : ℤ) (other : Option Name) (s : Sight)
    → sight_of buffered (Did n j r took other) ≡ Some s → IsStepSeen buffered n j r other s
step_seen buffered n j r took other s shows = by (kind_of r other) refl shows
  where
    by_kind : (k : EventKind) → kind_of r other ≡ Some k → (b : Bool) → (buffered && is_store k) ≡ b
        → cond b None (Some (the_sight (record { thread = n; step = j }))) ≡ Some s → IsStepSeen buffered n j r other s
    by_kind k asks true e shows = absurd (none-some s shows)
    by_kind k asks false e shows = record { kind = k; asks = asks; unbuffered = e; sight = same_Some _ s shows }

    by : (o : Option EventKind) → kind_of r other ≡ o
        → option_and_then (λ kind. cond (buffered && is_store kind) None (Some (the_sight (record { thread = n; step = j })))) o ≡ Some s
        → IsStepSeen buffered n j r other s
    by None asks shows = absurd (none-some s shows)
    by (Some k) asks shows = by_kind k asks (buffered && is_store k) refl shows

module _ {B : Type 0} (setting : Setting B) (nodes : List Node) (w : World) (l : IsLawfulWorld setting nodes w) (p : ℕ) (h : List Deed)
    (g : HasGone setting nodes w p h) where
  open setting use {ops, code, log}

  abbrev At : (t k : ℕ) → ℕ
  At t k = place_of (paths_of code log) w t k

  -- a step that has taken place lies before the position
  step_before : (u : ℕ) (q : Walk) → IsThread code log u q → (k : ℕ) (kind : EventKind) → IsDoneIn h q.name k kind → (ops.buffered && is_store kind) ≡ false
      → At u k < p
  step_before u q there k kind d unbuffered =
      let y = done_event setting (history_of l g) (path_thread u q there) k kind d in
      elim (g.only u q y.0 there (contains_in y.0 q.events y.1) (omega (arith, y.2, y.4))) [
        | inl before ↦ subst (λ j. At u j < p) y.2 before
        | inr pending ↦ absurd (true≢false (sym pending ∙ ap (λ k. ops.buffered && is_store k) y.3 ∙ unbuffered))
      ]

  -- a store that has reached memory lies before the position
  drain_before : (u : ℕ) (q : Walk) → IsThread code log u q → (k c : ℕ) (v : ℤ) → IsDrainedIn h q.name k c v → At u k < p
  drain_before u q there k c v d =
      let i = drain_issued setting (history_of l g) q.name k c v d in
      let y = issue_event setting (history_of l g) (path_thread u q there) k c v i.0 in
      let before = (g.drained u q y.0 there (contains_in y.0 q.events y.1) (ap₂ (λ b a. b && is_store a) i.1 y.3)).0 (ap (has_drained h q.name) y.2 ∙ i.2) in
      subst (λ j. At u j < p) y.2 before

  pub shown_before : (older newer : List Deed) (d : Deed) (u k : ℕ) → h ≡ older ++ d ∷ newer → Shows ops.buffered (paths_of code log) d u k → At u k < p
  shown_before older newer (Did n j r took other) u k at s =
      let seen = step_seen ops.buffered n j r took other _ s.sight in
      let name : n ≡ s.walk.name = ap (λ (x : Sight). x.thread) seen.sight in
      let number : j ≡ k = ap (λ (x : Sight). x.step) seen.sight in
      step_before u s.walk s.there k seen.kind
      (record {
        older = older;
        newer = newer;
        request = r;
        took = took;
        other = other;
        there = at ∙ ap₂ (λ m i. older ++ Did m i r took other ∷ newer) name number;
        asks = seen.asks;
      })
      seen.unbuffered
  shown_before older newer (Drained n j c v) u k at s =
      let sight : the_sight (record { thread = n; step = j }) ≡ record { thread = s.walk.name; step = k } = same_Some _ _ s.sight in
      let name : n ≡ s.walk.name = ap (λ (x : Sight). x.thread) sight in
      let number : j ≡ k = ap (λ (x : Sight). x.step) sight in
      drain_before u s.walk s.there k c v
      (record { older = older; newer = newer; there = at ∙ ap₂ (λ m i. older ++ Drained m i c v ∷ newer) name number })

  -- the order goes on with a deed that takes place at no earlier position
  pub order_goes_on : (d : Deed) → ((u k : ℕ) → Shows ops.buffered (paths_of code log) d u k → p ≤ At u k)
      → AreInOrder ops.buffered (paths_of code log) w (h ++ d ∷ [])
  order_goes_on d later older between newer a b t k u j is first second =
      elim (last_or_before h d (older ++ a ∷ between) b newer is) [
        | inl last ↦
            let before = shown_before older between a t k last.0 first in
            let after = later u j (subst (λ x. Shows ops.buffered (paths_of code log) x u j) (sym last.1) second) in
            omega (arith, before, after)
        | inr both ↦ g.order older between both.rest a b t k u j both.there first second
      ]

  -- a deed is seen only as its thread's event
  at_its_place : (d : Deed) (t k : ℕ) (q : Walk) → IsThread code log t q → At t k ≡ p
      → ((s : Sight) → sight_of ops.buffered d ≡ Some s → the_sight (record { thread = q.name; step = k }) ≡ s)
      → (u j : ℕ) → Shows ops.buffered (paths_of code log) d u j → p ≤ At u j
  at_its_place d t k q there at only u j s =
      let sight = only _ s.sight in
      let thread : t ≡ u = one_thread code log setting.log_is t u q s.walk there s.there (ap (λ (x : Sight). x.thread) sight) in
      let number : k ≡ j = ap (λ (x : Sight). x.step) sight in
      let same : At t k ≡ At u j = ap₂ At thread number in
      omega (arith, at, same)

  pub quiet_order : (d : Deed) → sight_of ops.buffered d ≡ None → AreInOrder ops.buffered (paths_of code log) w (h ++ d ∷ [])
  quiet_order d none = order_goes_on d (λ u k s. absurd (none-some _ (sym none ∙ s.sight)))

  pub event_order : (t : ℕ) (q : Walk) (k : ℕ) (r : Request) (took : ℤ) (other : Option Name) → IsThread code log t q → At t k ≡ p
      → AreInOrder ops.buffered (paths_of code log) w (h ++ Did q.name k r took other ∷ [])
  event_order t q k r took other there at =
      order_goes_on (Did q.name k r took other) (at_its_place (Did q.name k r took other) t k q there at (λ s shows.
      (step_seen ops.buffered q.name k r took other s shows).sight))

  pub drain_order : (t : ℕ) (q : Walk) (k c : ℕ) (v : ℤ) → IsThread code log t q → At t k ≡ p
      → AreInOrder ops.buffered (paths_of code log) w (h ++ Drained q.name k c v ∷ [])
  drain_order t q k c v there at =
      order_goes_on (Drained q.name k c v) (at_its_place (Drained q.name k c v) t k q there at (λ s shows. same_Some _ s shows))
