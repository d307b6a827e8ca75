-- The values at the numbers of a range, and at those of a rising list.
use Rattle.std.proofs.Common.{◌≡◌, ◌∙◌, inl, inr, ℕ, zero, suc, ◌+◌, ◌<◌, ◌≤◌, List, [], ◌∷◌, Option, Some, None, refl, sym, ap, ap₂, subst, arith}
use Rattle.std.specs.List.{cons_option, filter_map, range_with_len}
use Rattle.std.proofs.lemmas.Bool.{cases_order}
use Rattle.plan_runs.proofs.run_history.of_pending.In.{In}

-- the numbers rise, and the first is at least `a`
abbrev pub Rises : ℕ → List ℕ → Type 0
Rises a [] = Unit {0}
Rises a (p ∷ ps) = (a ≤ p) × Rises (p + 1) ps

in_rises : (a p : ℕ) (ps : List ℕ) → Rises a ps → In p ps → a ≤ p
in_rises a p [] rises i = absurd i
in_rises a p (q ∷ ps) rises (inl e) = omega (arith, rises.0, e)
in_rises a p (q ∷ ps) rises (inr i) = let more = in_rises (q + 1) p ps rises.1 i in omega (arith, rises.0, more)

module _ {X : Type 0} (f : ℕ → Option X) where
  abbrev Same : (a n : ℕ) → List ℕ → Type 0
  Same a n ps = filter_map f (range_with_len a n) ≡ filter_map f ps

  abbrev Below : (a n : ℕ) → List ℕ → Type 0
  Below a n ps = (p : ℕ) → In p ps → p < a + n

  abbrev Has : (a n : ℕ) → List ℕ → Type 0
  Has a n ps = (p : ℕ) (x : X) → a ≤ p → p < a + n → f p ≡ Some x → In p ps

  -- they are the same if the list has all numbers of the range that have a value
  pub same_range : (a n : ℕ) (ps : List ℕ) → Rises a ps → Below a n ps → Has a n ps → Same a n ps
  same_range a zero [] rises below has = refl
  same_range a zero (p ∷ ps) rises below has = absurd (let less = below p (inl refl) in omega (arith, less, rises.0))
  same_range a (suc n) [] rises below has = by (f a) refl (same_range (a + 1) n [] tt (λ p i. absurd i) (λ p x low high at. has p x (omega (arith, low)) (omega (arith, high)) at))
    where
      by : (o : Option X) → f a ≡ o → Same (a + 1) n [] → cons_option o (filter_map f (range_with_len (a + 1) n)) ≡ []
      by None at rest = rest
      by (Some x) at rest = absurd (has a x (omega arith) (omega arith) at)
  same_range a (suc n) (p ∷ ps) rises below has =
      elim (cases_order a p) [
        | inl same ↦
            ap₂ cons_option (ap f same)
            (same_range (a + 1) n ps (subst (λ b. Rises (b + 1) ps) (sym same) rises.1)
            (λ q i. let less = below q (inr i) in omega (arith, less))
            (λ q x low high at. later same (has q x (omega (arith, low)) (omega (arith, high)) at) low))
        | inr (inl less) ↦
            ap (λ o. cons_option o (filter_map f (range_with_len (a + 1) n))) (none less (f a) refl)
            ∙ same_range (a + 1) n (p ∷ ps) (omega (arith, less), rises.1) (λ q i. let under = below q i in omega (arith, under))
            (λ q x low high at. has q x (omega (arith, low)) (omega (arith, high)) at)
        | inr (inr more) ↦ absurd (omega (arith, more, rises.0))
      ]
    where
      later : a ≡ p → {q : ℕ} → In q (p ∷ ps) → a + 1 ≤ q → In q ps
      later same (inl e) low = absurd (omega (arith, same, e, low))
      later same (inr i) low = i

      none : a < p → (o : Option X) → f a ≡ o → f a ≡ None
      none less None at = at
      none less (Some x) at =
          let at_least = in_rises p a (p ∷ ps) (omega arith, rises.1) (has a x (omega arith) (omega arith) at) in absurd (omega (arith, at_least, less))
