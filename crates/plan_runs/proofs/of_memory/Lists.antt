-- The last deed that gives something.
use Rattle.std.proofs.Common.{◌≡◌, ◌∙◌, ◌⊎◌, inl, inr, List, [], ◌∷◌, ◌++◌, Option, Some, None, refl, ap, ap₂, sym, subst}
use Rattle.std.specs.List.{filter_map, last_or}
use Rattle.sym_steps.specs.run_history.History.{Deed}
use Rattle.sym_steps.specs.run_history.Last.{IsLast}
use Rattle.sym_steps.proofs.run_history.Last.{is_last}
use Rattle.sym_steps.proofs.run_history.of_pending.In.{In, in_at, in_mapped}

module _ {X : Type 0} (f : Deed → Option X) where
  -- some deed is the last that gives something, or none gives anything
  pub last_or_none : (h : List Deed) → ((x : X) × IsLast f h x) ⊎ (filter_map f h ≡ [])
  last_or_none h = by (filter_map f h) refl
    where
      from : (y : X) (ys : List X) → (x : X) × (last_or None (y ∷ ys) ≡ Some x)
      from y [] = (y, refl)
      from y (z ∷ ys) = from z ys

      by : (xs : List X) → filter_map f h ≡ xs → ((x : X) × IsLast f h x) ⊎ (filter_map f h ≡ [])
      by [] is = inr is
      by (y ∷ ys) is = let l = from y ys in inl (l.0, is_last f h l.0 (ap (last_or None) is ∙ l.1))

  pub none_gives : (h : List Deed) (d : Deed) (x : X) → filter_map f h ≡ [] → In d h → f d ≡ Some x → ⊥
  none_gives h d x none i gives = subst (In x) none (in_mapped f d x h i gives)

  -- an element that gives something is the last one that does, or comes before it
  pub at_or_before : (older : List Deed) (d : Deed) (newer first : List Deed) (e : Deed) (rest : List Deed) (x : X)
      → older ++ d ∷ newer ≡ first ++ e ∷ rest → filter_map f newer ≡ [] → f e ≡ Some x
      → (e ≡ d) ⊎ ((between : List Deed) × (older ≡ first ++ e ∷ between))
  at_or_before [] d newer [] e rest x is none gives = let same : d ≡ e = cc in inl (sym same)
  at_or_before [] d newer (z ∷ first) e rest x is none gives =
      let later : newer ≡ first ++ e ∷ rest = cc in
      absurd (none_gives newer e x none (subst (In e) (sym later) (in_at first e rest)) gives)
  at_or_before (y ∷ older) d newer [] e rest x is none gives = let same : y ≡ e = cc in inr (older, ap (λ z. z ∷ older) same)
  at_or_before (y ∷ older) d newer (z ∷ first) e rest x is none gives =
      let same : y ≡ z = cc in
      let later : older ++ d ∷ newer ≡ first ++ e ∷ rest = cc in
      elim (at_or_before older d newer first e rest x later none gives) [
        | inl one ↦ inl one
        | inr before ↦ inr (before.0, ap₂ (λ a g. a ∷ g) same before.1)
      ]
