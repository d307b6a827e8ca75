-- The positions of a world's events.
use Rattle.std.proofs.Common.{◌≡◌, ◌∙◌, ℕ, ◌==◌, length, Some, None, refl, sym, ap, ap₂, subst, arith}
use Rattle.std.specs.Prelude.{slice_get}
use Rattle.std.specs.List.{Contains}
use Rattle.std.proofs.lemmas.Bool.{eq-eqb, eqb-true}
use Rattle.std.proofs.lemmas.Option.{none-some, same_Some}
use Rattle.order_events.specs.path_walk.Paths.{Walk, Paths}
use Rattle.order_events.specs.path_walk.declared.event.Event.{Event}
use Rattle.order_events.specs.order_formula.Worlds.{World, IsWorld}
use Rattle.order_events.specs.lawful_order.Events.{Placed, all_events, number_of, place_of}
use Rattle.order_events.specs.lawful_order.Whole.{HasStep, AreWhole}
use Rattle.order_events.proofs.Numbers.{in_all_from, of_all_from, has_number, one_step}
use Rattle.world_plan.specs.Plan.{event_at}
use Rattle.world_plan.proofs.Numbers.{of_find, in_find, one_place, one_event}

abbrev the_event : Placed Event → Placed Event
the_event e = e

-- a thread's event is a step and is among all events
pub step_of : (paths : Paths) (t : ℕ) (q : Walk) (x : Event) → slice_get paths.threads t ≡ Some q → Contains q.events x → HasStep paths t x.step
step_of paths t q x there i = (x, (q, there, i), refl)

pub among_all : (paths : Paths) (t : ℕ) (q : Walk) (x : Event) → slice_get paths.threads t ≡ Some q → Contains q.events x
    → Contains (all_events paths) (record { thread = t; it = x })
among_all paths t q x there i = in_all_from (λ (w : Walk). w.events) 0 t t paths.threads q x there i (omega arith)

module _ (paths : Paths) (w : World) (world : IsWorld w) (many : length w.positions ≡ length (all_events paths)) where
  -- events have different places
  pub places_differ : (t k u j : ℕ) → HasStep paths t k → HasStep paths u j → place_of paths w t k ≡ place_of paths w u j → (t ≡ u) × (k ≡ j)
  places_differ t k u j a b same =
      one_step paths t k u j a
      (one_place w.positions (number_of paths t k) (number_of paths u j) world.distinct
      (omega (arith, many, has_number paths t k a)) (omega (arith, many, has_number paths u j b)) same)

  module _ (whole : AreWhole paths) where
    pub same_event : (t u : ℕ) (p q : Walk) (x y : Event) → slice_get paths.threads t ≡ Some p → slice_get paths.threads u ≡ Some q
        → Contains p.events x → Contains q.events y → place_of paths w t x.step ≡ place_of paths w u y.step → (t ≡ u) × (x ≡ y)
    same_event t u p q x y at bt i j same =
        let d = places_differ t x.step u y.step (step_of paths t p x at i) (step_of paths u q y bt j) same in
        let walk : p ≡ q = one_walk d.0 in
        (d.0, one_event paths whole t p x y at i (subst (λ (v : Walk). Contains v.events y) (sym walk) j) d.1)
      where
        one_walk : t ≡ u → p ≡ q
        one_walk e = same_Some p q (sym at ∙ ap (slice_get paths.threads) e ∙ bt)

    -- the event at a position
    pub event_at_is : (p : ℕ) (e : Placed Event) → event_at paths w p ≡ Some e
        → (q : Walk) × (slice_get paths.threads e.thread ≡ Some q) × Contains q.events e.it × (place_of paths w e.thread e.it.step ≡ p)
    event_at_is p e is =
        let f = of_find (λ (a : Placed Event). place_of paths w a.thread a.it.step == p) (all_events paths) e is in
        let o = of_all_from (λ (v : Walk). v.events) 0 paths.threads e f.0 in
        let same : o.place ≡ e.thread = omega (arith, o.thread) in
        (o.owner, ap (slice_get paths.threads) (sym same) ∙ o.at, o.among, eqb-true (place_of paths w e.thread e.it.step) p f.1)

    pub event_at_place : (t : ℕ) (q : Walk) (x : Event) → slice_get paths.threads t ≡ Some q → Contains q.events x
        → event_at paths w (place_of paths w t x.step) ≡ Some (record { thread = t; it = x })
    event_at_place t q x there i =
        let own : Placed Event = record { thread = t; it = x } in
        let p = place_of paths w t x.step in
        let f = in_find (λ (a : Placed Event). place_of paths w a.thread a.it.step == p) (all_events paths) own (among_all paths t q x there i) (eq-eqb p p refl) in
        let e = event_at_is p f.0 f.1 in
        let s = same_event f.0.thread t e.0 q f.0.it x e.1 there e.2 i e.3 in
        f.1 ∙ ap₂ (λ u y. Some (the_event (record { thread = u; it = y }))) s.0 s.1

    pub none_at : (p t : ℕ) (q : Walk) (x : Event) → event_at paths w p ≡ None → slice_get paths.threads t ≡ Some q → Contains q.events x
        → place_of paths w t x.step ≡ p → ⊥
    none_at p t q x none there i at = none-some _ (sym none ∙ ap (event_at paths w) (sym at) ∙ event_at_place t q x there i)
