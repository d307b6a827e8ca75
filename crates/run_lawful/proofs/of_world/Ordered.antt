-- The world of a history orders the events as the history does.
use Rattle.std.proofs.Common.{◌≡◌, ◌∙◌, inl, inr, ℕ, suc, ◌+◌, ◌<◌, Bool, false, ◌&&◌, List, ◌∷◌, ◌++◌, length, Some, sym, ap, ap₂, subst, arith}
use Rattle.std.proofs.Common.{append_assoc, length-append}
use Rattle.std.specs.Prelude.{slice_get}
use Rattle.std.proofs.lemmas.Option.{same_Some}
use Rattle.sym_steps.specs.run_history.History.{Deed}
use Rattle.sym_events.specs.path_walk.Paths.{Walk, Paths}
use Rattle.sym_events.specs.path_walk.declared.event.Event.{Event}
use Rattle.sym_events.specs.sym_exec.Executed.{Symbolic}
use Rattle.sym_events.specs.lawful_order.Events.{HasEvent, number_of, IsBefore}
use Rattle.sym_events.specs.lawful_order.Memory.{is_store}
use Rattle.sym_events.specs.lawful_order.Whole.{HasStep, AreWhole}
use Rattle.world_plan.specs.Sights.{Sight, Shows, AreInOrder}
use Rattle.world_plan.proofs.Numbers.{numbers_rise}
use Rattle.run_lawful.specs.world.Order.{TakesPlace, TakesPlaceBefore, IsOrderOf}
use Rattle.run_lawful.specs.world.WorldOf.{world_in}
use Rattle.run_lawful.proofs.of_world.Places.{place, before_cases, by_place, by_number, place_at, place_never, found}
use Rattle.run_lawful.proofs.of_world.Seen.{AreTold, shown_once, the_sight}
use Rattle.run_lawful.proofs.of_world.Splits.{TwoPlaces, Before, Same, After, two_places}

-- the threads of paths have different names
abbrev pub NamesDiffer : Paths → Type 0
NamesDiffer paths = (t u : ℕ) (q r : Walk) → slice_get paths.threads t ≡ Some q → slice_get paths.threads u ≡ Some r → q.name ≡ r.name → t ≡ u

-- all events take place, except stores that wait forever, and nothing else does
pub record AreSeen (buffered : Bool) (paths : Paths) (h : List Deed) : Type 0 where
  pub told : AreTold buffered h
  pub whole : AreWhole paths
  pub names : NamesDiffer paths
  pub events : (t k : ℕ) → TakesPlace buffered paths h t k → HasStep paths t k
  pub done : (t : ℕ) (x : Event) → HasEvent paths t x → (buffered && is_store x.kind) ≡ false → TakesPlace buffered paths h t x.step

module _ (buffered : Bool) (paths : Paths) (symbolic : Symbolic) (h : List Deed) (a : AreSeen buffered paths h) where
  abbrev Takes : (t k : ℕ) → Type 0
  Takes t k = TakesPlace buffered paths h t k

  abbrev at : (t k : ℕ) → ℕ
  at t k = place buffered paths symbolic h t k

  once : (older between newer : List Deed) (d e : Deed) (t k : ℕ) → h ≡ (older ++ d ∷ between) ++ e ∷ newer → Shows buffered paths d t k
      → Shows buffered paths e t k → ⊥
  once older between newer d e t k is ds es =
      let one : es.walk ≡ ds.walk = same_Some es.walk ds.walk (sym es.there ∙ ds.there) in
      shown_once buffered h a.told ds.walk.name k older between newer d e is ds.sight (es.sight ∙ ap (λ (q : Walk). Some (the_sight q.name k)) one)

  at_deed : (t k : ℕ) (older : List Deed) (d : Deed) (newer : List Deed) → h ≡ older ++ d ∷ newer → Shows buffered paths d t k → at t k ≡ length older
  at_deed t k older d newer is shows =
      place_at buffered paths symbolic h t k older d newer (λ before between c there seen. once before between newer c d t k there seen shows) is shows

  order : AreInOrder buffered paths (world_in buffered paths symbolic h) h
  order older between newer d e t k u j is ds es =
      let front : h ≡ older ++ d ∷ (between ++ e ∷ newer) = is ∙ append_assoc older (d ∷ between) (e ∷ newer) in
      let first = at_deed t k older d (between ++ e ∷ newer) front ds in
      let second = at_deed u j (older ++ d ∷ between) e newer is es in
      by_place buffered paths symbolic h t k u j
      (a.events t k (record { older = older; deed = d; newer = between ++ e ∷ newer; there = front; shows = ds }))
      (a.events u j (record { older = older ++ d ∷ between; deed = e; newer = newer; there = is; shows = es }))
      (omega (arith, first, second, length-append older (d ∷ between)))

  -- different steps take place by different deeds
  apart : (d : Deed) (t k u j : ℕ) → Shows buffered paths d t k → Shows buffered paths d u j → (t ≡ u) × (k ≡ j)
  apart d t k u j s r =
      let one : the_sight s.walk.name k ≡ the_sight r.walk.name j =
      same_Some (the_sight s.walk.name k) (the_sight r.walk.name j) (sym s.sight ∙ r.sight) in
      (a.names t u s.walk r.walk s.there r.there (ap (λ (x : Sight). x.thread) one), ap (λ (x : Sight). x.step) one)

  back : (t k u j : ℕ) → HasStep paths t k → Takes u j → IsBefore paths (world_in buffered paths symbolic h) t k u j
      → TakesPlaceBefore buffered paths h t k u j
  back t k u j s y before =
      let second = at_deed u j y.older y.deed y.newer y.there y.shows in
      let inside : length h ≡ length y.older + suc (length y.newer) = ap length y.there ∙ length-append y.older (y.deed ∷ y.newer) in
      elim (before_cases buffered paths symbolic h t k u j s (a.events u j y) before) [
        | inl less ↦
            let f = found buffered paths symbolic h t k (omega (arith, less, second, inside)) in
            split f.takes (omega (arith, f.place_is, less, second))
        | inr even ↦
            let f = found buffered paths symbolic h t k (omega (arith, even.0, second, inside)) in
            absurd (meets f.takes (omega (arith, f.place_is, even.0, second)) even.1)
      ]
    where
      split : (x : Takes t k) → length x.older < length y.older → TakesPlaceBefore buffered paths h t k u j
      split x less = by (two_places x.older x.deed x.newer y.older y.deed y.newer (sym x.there ∙ y.there))
        where
          by : TwoPlaces x.older x.deed x.newer y.older y.deed y.newer → TakesPlaceBefore buffered paths h t k u j
          by (Before between is rest) = record {
            older = x.older;
            first = x.deed;
            between = between;
            second = y.deed;
            newer = y.newer;
            there = y.there ∙ ap (λ xs. xs ++ y.deed ∷ y.newer) is;
            shows_first = x.shows;
            shows_second = y.shows;
          }
          by (Same is one rest) = absurd (let e = ap length is in omega (arith, e, less))
          by (After between is rest) = absurd (let e = ap length is in omega (arith, e, less, length-append y.older (y.deed ∷ between)))

      meets : (x : Takes t k) → length x.older ≡ length y.older → number_of paths t k < number_of paths u j → ⊥
      meets x even less = by (two_places x.older x.deed x.newer y.older y.deed y.newer (sym x.there ∙ y.there))
        where
          by : TwoPlaces x.older x.deed x.newer y.older y.deed y.newer → ⊥
          by (Before between is rest) = let e = ap length is in omega (arith, e, even, length-append x.older (x.deed ∷ between))
          by (Same is one rest) =
              let same = apart y.deed t k u j (subst (λ d. Shows buffered paths d t k) one x.shows) y.shows in
              let number : number_of paths t k ≡ number_of paths u j = ap₂ (number_of paths) same.0 same.1 in
              omega (arith, number, less)
          by (After between is rest) = let e = ap length is in omega (arith, e, even, length-append y.older (y.deed ∷ between))

  pub is_order : IsOrderOf buffered paths h (world_in buffered paths symbolic h)
  is_order = record {
    order = order;
    back = back;
    once = once;
    events = a.events;
    done = a.done;
    never = λ t k u j x s never.
        let first = at_deed t k x.older x.deed x.newer x.there x.shows in
        let inside : length h ≡ length x.older + suc (length x.newer) = ap length x.there ∙ length-append x.older (x.deed ∷ x.newer) in
        by_place buffered paths symbolic h t k u j (a.events t k x) s (omega (arith, first, inside, place_never buffered paths symbolic h u j never));
    rest = λ t k j s r none none_too less.
        by_number buffered paths symbolic h t k t j s r
        (place_never buffered paths symbolic h t k none ∙ sym (place_never buffered paths symbolic h t j none_too))
        (numbers_rise paths a.whole t k j s r less);
  }
