-- What takes place before a deed and what after it.
use Rattle.std.proofs.Common.{◌≡◌, ◌∙◌, ◌⊎◌, inl, inr, ℕ, Bool, true, false, List, ◌∷◌, ◌++◌, refl, sym, ap, subst}
use Rattle.std.specs.List.{list_any}
use Rattle.std.proofs.lemmas.Bool.{true≢false}
use Rattle.sym_steps.specs.run_history.History.{Deed}
use Rattle.sym_steps.proofs.run_history.of_pending.In.{In, in_at, in_split, any_in, in_any}
use Rattle.sym_events.specs.path_walk.Paths.{Paths}
use Rattle.sym_events.specs.order_formula.Worlds.{World}
use Rattle.sym_events.specs.lawful_order.Events.{IsBefore}
use Rattle.sym_events.specs.lawful_order.Whole.{HasStep}
use Rattle.world_plan.specs.Sights.{Shows}
use Rattle.run_lawful.specs.world.Order.{TakesPlace, TakesPlaceBefore, IsOrderOf}
use Rattle.run_lawful.proofs.of_world.Seen.{shown, shown_is, is_shown_by}
use Rattle.run_lawful.proofs.of_world.Splits.{TwoPlaces, Before, Same, After, two_places}

module _ (buffered : Bool) (paths : Paths) where
  -- a deed of this list by which a step takes place
  pub record IsShownIn (g : List Deed) (t k : ℕ) : Type 0 where
    pub deed : Deed
    pub there : In deed g
    pub shows : Shows buffered paths deed t k

  pub shown_or_not : (g : List Deed) (t k : ℕ) → IsShownIn g t k ⊎ (IsShownIn g t k → ⊥)
  shown_or_not g t k = by (list_any (shown buffered paths t k) g) refl
    where
      by : (x : Bool) → list_any (shown buffered paths t k) g ≡ x → IsShownIn g t k ⊎ (IsShownIn g t k → ⊥)
      by true e =
          let p = any_in (shown buffered paths t k) g e in
          inl (record { deed = p.one; there = p.there; shows = shown_is buffered paths t k p.one p.passes })
      by false e = inr (λ s. true≢false (sym (in_any (shown buffered paths t k) s.deed g s.there (is_shown_by buffered paths t k s.deed s.shows)) ∙ e))

  module _ (h : List Deed) where
    pub shown_takes : (t k : ℕ) → IsShownIn h t k → TakesPlace buffered paths h t k
    shown_takes t k s = let p = in_split s.deed h s.there in record { older = p.older; deed = s.deed; newer = p.newer; there = p.there; shows = s.shows }

    takes_shown : (t k : ℕ) → TakesPlace buffered paths h t k → IsShownIn h t k
    takes_shown t k x = record { deed = x.deed; there = subst (In x.deed) (sym x.there) (in_at x.older x.deed x.newer); shows = x.shows }

    pub takes_or_not : (t k : ℕ) → TakesPlace buffered paths h t k ⊎ (TakesPlace buffered paths h t k → ⊥)
    takes_or_not t k = elim (shown_or_not h t k) [ inl s ↦ inl (shown_takes t k s) | inr none ↦ inr (λ x. none (takes_shown t k x)) ]

    module _ (w : World) (order : IsOrderOf buffered paths h w) (older newer : List Deed) (d : Deed) (t k : ℕ) (at : h ≡ older ++ d ∷ newer)
        (shows : Shows buffered paths d t k) where
      -- a step that takes place by an older deed comes before
      pub first_before : (u j : ℕ) → IsShownIn older u j → IsBefore paths w u j t k
      first_before u j s =
          let p = in_split s.deed older s.there in
          order.order p.older p.newer newer s.deed d u j t k (at ∙ ap (λ g. g ++ d ∷ newer) p.there) s.shows shows

      -- a step that comes before takes place by an older deed
      pub shown_before : (u j : ℕ) → HasStep paths u j → IsBefore paths w u j t k → IsShownIn older u j
      shown_before u j step before = by (two_places older d newer (y.older ++ y.first ∷ y.between) y.second y.newer (sym at ∙ y.there))
        where
          y : TakesPlaceBefore buffered paths h u j t k
          y = order.back u j t k step (record { older = older; deed = d; newer = newer; there = at; shows = shows }) before

          by : TwoPlaces older d newer (y.older ++ y.first ∷ y.between) y.second y.newer → IsShownIn older u j
          by (Before between is rest) =
              absurd (order.once older between y.newer d y.second t k (y.there ∙ ap (λ g. g ++ y.second ∷ y.newer) is) shows y.shows_second)
          by (Same is one rest) =
              record { deed = y.first; there = subst (In y.first) (sym is) (in_at y.older y.first y.between); shows = y.shows_first }
          by (After between is rest) =
              absurd (order.once (y.older ++ y.first ∷ y.between) between newer y.second d t k (at ∙ ap (λ g. g ++ d ∷ newer) is) y.shows_second shows)

      -- a step that takes place by neither this deed nor an older one comes after
      pub comes_after : (u j : ℕ) → HasStep paths u j → (IsShownIn older u j → ⊥) → (Shows buffered paths d u j → ⊥) → IsBefore paths w t k u j
      comes_after u j step none other = elim (takes_or_not u j) [
        | inl x ↦ later x (two_places older d newer x.older x.deed x.newer (sym at ∙ x.there))
        | inr never ↦ order.never t k u j (record { older = older; deed = d; newer = newer; there = at; shows = shows }) step never
      ]
        where
          later : (x : TakesPlace buffered paths h u j) → TwoPlaces older d newer x.older x.deed x.newer → IsBefore paths w t k u j
          later x (Before between is rest) = order.order older between x.newer d x.deed t k u j (x.there ∙ ap (λ g. g ++ x.deed ∷ x.newer) is) shows x.shows
          later x (Same is one rest) = absurd (other (subst (λ e. Shows buffered paths e u j) (sym one) x.shows))
          later x (After between is rest) =
              absurd (none (record { deed = x.deed; there = subst (In x.deed) (sym is) (in_at x.older x.deed between); shows = x.shows }))
