-- The result of a loop over a list, with one more element.
use Rattle.std.proofs.Common.{◌≡◌, ◌∙◌, ℕ, ◌+◌, ◌<◌, List, [], ◌∷◌, ◌++◌, length, map, get_or, take, sym, ap, append_assoc, append-nil, arith}
use Rattle.std.specs.List.{enumerate_from, flat_map}
use Rattle.std.proofs.lemmas.List.{take_more, length-take-le, get_or_default}
use Rattle.std.proofs.lemmas.List.Concat.{flat_map-append, flat_map_single}
use Rattle.order_events.specs.Parts.{of_each}

enumerated_push : {A : Type 0} (n : ℕ) (xs : List A) (x : A) → enumerate_from n (xs ++ x ∷ []) ≡ enumerate_from n xs ++ (n + length xs, x) ∷ []
enumerated_push n [] x = let same : n ≡ n + 0 = omega arith in ap (λ m. (m, x) ∷ []) same
enumerated_push n (y ∷ ys) x =
    let same : n + 1 + length ys ≡ n + length (y ∷ ys) = omega arith in
    ap (λ es. (n, y) ∷ es) (enumerated_push (n + 1) ys x ∙ ap (λ m. enumerate_from (n + 1) ys ++ (m, x) ∷ []) same)

module _ {A : Type 0} (xs : List A) (i : ℕ) (x : A) (within : i < length xs) (is : x ≡ get_or xs i x) where
  one_more : take (i + 1) xs ≡ take i xs ++ x ∷ []
  one_more = take_more xs i x within ∙ ap (λ y. take i xs ++ y ∷ []) (sym is)

  pub enumerated_more : enumerate_from 0 (take (i + 1) xs) ≡ enumerate_from 0 (take i xs) ++ (i, x) ∷ []
  enumerated_more =
      let here : 0 + length (take i xs) ≡ i = omega (arith, length-take-le i xs (omega (arith, within))) in
      ap (enumerate_from 0) one_more ∙ enumerated_push 0 (take i xs) x ∙ ap (λ m. enumerate_from 0 (take i xs) ++ (m, x) ∷ []) here

  module _ {X : Type 0} (old mid new : List X) where
    pub flat_more : (f : A → List X) → mid ≡ old ++ flat_map f (take i xs) → new ≡ mid ++ f x → new ≡ old ++ flat_map f (take (i + 1) xs)
    flat_more f front step =
        let before = flat_map f (take i xs) in
        step ∙ ap (λ zs. zs ++ f x) front ∙ append_assoc old before (f x)
        ∙ ap (λ zs. old ++ zs)
        (ap (λ zs. before ++ zs) (sym (append-nil (f x))) ∙ sym (flat_map-append f (take i xs) (x ∷ [])) ∙ ap (flat_map f) (sym one_more))

    pub each_more : (f : ℕ → A → List X) → mid ≡ old ++ of_each f (take i xs) → new ≡ mid ++ f i x → new ≡ old ++ of_each f (take (i + 1) xs)
    each_more f front step =
        let pair = λ (p : ℕ × A). f p.0 p.1 in
        let places = enumerate_from 0 (take i xs) in
        let before = flat_map pair places in
        step ∙ ap (λ zs. zs ++ f i x) front ∙ append_assoc old before (f i x)
        ∙ ap (λ zs. old ++ zs)
        (ap (λ zs. before ++ zs) (sym (append-nil (f i x))) ∙ sym (flat_map-append pair places ((i, x) ∷ [])) ∙ ap (flat_map pair) (sym enumerated_more))

    pub map_more : (f : A → X) → mid ≡ old ++ map f (take i xs) → new ≡ mid ++ f x ∷ [] → new ≡ old ++ map f (take (i + 1) xs)
    map_more f front step =
        let single = λ (a : A). f a ∷ [] in
        flat_more single (front ∙ ap (λ zs. old ++ zs) (sym (flat_map_single f (take i xs)))) step
        ∙ ap (λ zs. old ++ zs) (flat_map_single f (take (i + 1) xs))

-- the same if the element is read by its place
module _ {A X : Type 0} (xs : List A) (i : ℕ) (d : A) (within : i < length xs) (old mid new : List X) where
  here : get_or xs i d ≡ get_or xs i (get_or xs i d)
  here = get_or_default xs i d (get_or xs i d) within

  pub flat_more_at : (f : A → List X) → mid ≡ old ++ flat_map f (take i xs) → new ≡ mid ++ f (get_or xs i d) → new ≡ old ++ flat_map f (take (i + 1) xs)
  flat_more_at = flat_more xs i (get_or xs i d) within here old mid new

  pub map_more_at : (f : A → X) → mid ≡ old ++ map f (take i xs) → new ≡ mid ++ f (get_or xs i d) ∷ [] → new ≡ old ++ map f (take (i + 1) xs)
  map_more_at = map_more xs i (get_or xs i d) within here old mid new
