-- The stores that have reached memory, after one more deed.
use Rattle.std.proofs.Common.{◌≡◌, ◌∙◌, ◌⊎◌, inl, inr, ℕ, suc, ◌<◌, ◌==◌, ◌&&◌, ◌||◌, ℤ, Bool, true, false, List, [], ◌∷◌, ◌++◌}
use Rattle.std.proofs.Common.{Option, refl, ap, ap₂, sym, arith}
use Rattle.std.specs.Prelude.{slice_get}
use Rattle.std.specs.List.{Contains}
use Rattle.std.proofs.Math.Bool.{or-false}
use Rattle.std.proofs.lemmas.Bool.{true≢false, and_parts, and_from, eqb-true, eq-eqb, or_left, or_right, cases_lt}
use Rattle.std.proofs.lemmas.List.Folds.{list_any-append}
use Rattle.std.proofs.lemmas.Option.{same_Some}
use Rattle.condition_order.specs.tc_base.Names.{Name}
use Rattle.condition_order.specs.tc_base.declared.request.Request.{Request}
use Rattle.condition_order.proofs.run_laws.Names.{is_same, same_self}
use Rattle.sym_steps.specs.run_history.History.{Deed, Did, Drained, drains, has_drained, same}
use Rattle.condition_order.specs.path_walk.Paths.{Walk, paths_of}
use Rattle.condition_order.specs.path_walk.declared.event.Event.{Event}
use Rattle.sym_steps.specs.path_laws.Setting.{Setting}
use Rattle.sym_steps.specs.path_laws.history.Along.{IsThread}
use Rattle.condition_order.specs.sym_terms.declared.node.Node.{Node}
use Rattle.condition_order.specs.order_formula.Worlds.{World}
use Rattle.condition_order.specs.lawful_order.Events.{place_of}
use Rattle.condition_order.specs.lawful_order.Whole.{AreWhole}
use Rattle.condition_order.proofs.order_events.Whole.{whole as are_whole}
use Rattle.world_plan.specs.Going.{IsLawfulWorld, HasGone, HaveDrained, is_pending, place}
use Rattle.world_plan.proofs.Places.{same_event}
use Rattle.world_plan.proofs.Threads.{one_thread}

-- the stores that have drained, after one more deed
pub drained_more : (h : List Deed) (d : Deed) (n : Name) (k : ℕ) → has_drained (h ++ d ∷ []) n k ≡ has_drained h n k || drains n k d
drained_more h d n k = list_any-append (drains n k) h (d ∷ []) ∙ ap (λ b. has_drained h n k || b) (or-false (drains n k d))

first_or_second : (a b : Bool) → a || b ≡ true → (a ≡ true) ⊎ (b ≡ true)
first_or_second true b e = inl refl
first_or_second false b e = inr e

module _ {B : Type 0} (setting : Setting B) (nodes : List Node) (w : World) (l : IsLawfulWorld setting nodes w) where
  open setting use {ops, code, log}

  pub paths_whole : AreWhole (paths_of code log)
  paths_whole = are_whole code (paths_of code log) (record { log = log; fits = l.fits; are = refl })

  module _ (p : ℕ) (h : List Deed) (g : HasGone setting nodes w p h) where
    abbrev Pending : Event → Type 0
    Pending x = is_pending ops.buffered x ≡ true

    pub step_drained : (n : Name) (k : ℕ) (r : Request) (took : ℤ) (other : Option Name)
        → HaveDrained code log w ops.buffered p (h ++ Did n k r took other ∷ [])
    step_drained n k r took other t q x there i pending =
        let same = drained_more h (Did n k r took other) q.name x.step ∙ or-false (has_drained h q.name x.step) in
        let has = g.drained t q x there i pending in
        (λ e. has.0 (sym same ∙ e), λ lt. same ∙ has.1 lt)

    module _ (t : ℕ) (q : Walk) (x : Event) (there : IsThread code log t q) (among : Contains q.events x) (at : place code log w t x ≡ p) where
      -- the event at the position
      only_one : (u : ℕ) (v : Walk) (y : Event) → IsThread code log u v → Contains v.events y → place code log w u y ≡ p → (t ≡ u) × (x ≡ y)
      only_one u v y here i same =
          same_event (paths_of code log) w l.world l.of.events paths_whole t u q v x y there here among i (at ∙ sym same)

      pub event_drained : is_pending ops.buffered x ≡ false → (r : Request) (took : ℤ) (other : Option Name)
          → HaveDrained code log w ops.buffered (suc p) (h ++ Did q.name x.step r took other ∷ [])
      event_drained unbuffered r took other u v y here i pending =
          let has = step_drained q.name x.step r took other u v y here i pending in
          let apart : place code log w u y ≡ p → ⊥ =
          λ same. true≢false (sym pending ∙ ap (is_pending ops.buffered) (sym (only_one u v y here i same).1) ∙ unbuffered) in
          (λ e. omega (arith, has.0 e), λ lt. has.1 (by (place code log w u y) apart lt))
        where
          by : (n : ℕ) → (n ≡ p → ⊥) → n < suc p → n < p
          by n apart lt = elim (cases_lt n p) [
            | inl less ↦ less
            | inr more ↦ absurd (apart (omega (arith, lt, more)))
          ]

      pub drain_drained : (c : ℕ) (a : ℤ) → HaveDrained code log w ops.buffered (suc p) (h ++ Drained q.name x.step c a ∷ [])
      drain_drained c a u v y here i pending =
          let same_more = drained_more h (Drained q.name x.step c a) v.name y.step in
          let has = g.drained u v y here i pending in (
            λ e. elim (first_or_second (has_drained h v.name y.step) (same v.name q.name && y.step == x.step) (sym same_more ∙ e)) [
              | inl before ↦ omega (arith, has.0 before)
              | inr now ↦ omega (arith, mine now)
            ],
            λ lt. same_more ∙ elim (cases_lt (place code log w u y) p) [
              | inl less ↦ or_left _ _ (has.1 less)
              | inr more ↦ or_right _ _ (its (only_one u v y here i (omega (arith, lt, more))))
            ],
          )
        where
          mine : same v.name q.name && y.step == x.step ≡ true → place code log w u y ≡ p
          mine e =
              let both = and_parts (same v.name q.name) (y.step == x.step) e in
              let thread = one_thread code log setting.log_is u t v q here there (is_same v.name q.name both.0) in
              ap₂ (place_of (paths_of code log) w) thread (eqb-true y.step x.step both.1) ∙ at

          its : (t ≡ u) × (x ≡ y) → same v.name q.name && y.step == x.step ≡ true
          its s =
              let walk : q ≡ v = same_Some q v (sym there ∙ ap (slice_get (paths_of code log).threads) s.0 ∙ here) in
              and_from (same v.name q.name) (y.step == x.step) (same_self v.name q.name (ap (λ (z : Walk). z.name) (sym walk)))
              (eq-eqb y.step x.step (ap (λ (z : Event). z.step) (sym s.1)))
