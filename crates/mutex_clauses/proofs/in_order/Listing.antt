-- Loops that append the images of elements that pass.
use Rattle.std.proofs.Common.{◌≡◌, ◌∙◌, ℕ, ◌+◌, ◌<◌, Bool, true, false, List, [], ◌∷◌, ◌++◌, length, map, get_or, take, refl, sym, ap, append_assoc}
use Rattle.std.specs.Prelude.{filter, if◌then◌else◌}
use Rattle.std.specs.List.{enumerate_from}
use Rattle.std.proofs.lemmas.List.{map-append, take_more}
use Rattle.std.proofs.lemmas.List.Elements.{filter-append}
use Rattle.order_events.proofs.Loops.{enumerated_more}

module _ {A X : Type 0} (p : A → Bool) (f : A → X) where
  -- the images with one more element at the end
  sift_last : (es : List A) (q : A) → map f (filter p (es ++ q ∷ [])) ≡ map f (filter p es) ++ (if p q then f q ∷ [] else [])
  sift_last es q =
      ap (map f) (filter-append p es (q ∷ [])) ∙ map-append f (filter p es) (filter p (q ∷ []))
      ∙ ap (λ zs. map f (filter p es) ++ zs) (by (p q))
    where
      by : (b : Bool) → map f (if b then q ∷ [] else []) ≡ (if b then f q ∷ [] else [])
      by true = refl
      by false = refl

  -- the same after other elements
  sift_on : (es longer : List A) (q : A) (old mid new : List X) → longer ≡ es ++ q ∷ [] → mid ≡ old ++ map f (filter p es)
      → new ≡ mid ++ (if p q then f q ∷ [] else []) → new ≡ old ++ map f (filter p longer)
  sift_on es longer q old mid new more front step =
      let before : List X = map f (filter p es) in
      let piece : List X = if p q then f q ∷ [] else [] in
      step ∙ ap (λ zs. zs ++ piece) front ∙ append_assoc old before piece
      ∙ ap (λ zs. old ++ zs) (sym (sift_last es q) ∙ ap (λ zs. map f (filter p zs)) (sym more))

  -- one more element of a loop
  pub sift_more : (xs : List A) (i : ℕ) (x : A) (old mid new : List X) → i < length xs → x ≡ get_or xs i x
      → mid ≡ old ++ map f (filter p (take i xs))
      → new ≡ mid ++ (if p x then f x ∷ [] else []) → new ≡ old ++ map f (filter p (take (i + 1) xs))
  sift_more xs i x old mid new within is front step =
      sift_on (take i xs) (take (i + 1) xs) x old mid new (take_more xs i x within ∙ ap (λ y. take i xs ++ y ∷ []) (sym is)) front step

-- the same over elements with their places
pub sift_more_placed : {A X : Type 0} (p : ℕ × A → Bool) (f : ℕ × A → X) (xs : List A) (i : ℕ) (x : A) (old mid new : List X)
    → i < length xs → x ≡ get_or xs i x → mid ≡ old ++ map f (filter p (enumerate_from 0 (take i xs)))
    → new ≡ mid ++ (if p (i, x) then f (i, x) ∷ [] else [])
    → new ≡ old ++ map f (filter p (enumerate_from 0 (take (i + 1) xs)))
sift_more_placed p f xs i x old mid new within is front step =
    sift_on p f (enumerate_from 0 (take i xs)) (enumerate_from 0 (take (i + 1) xs)) (i, x) old mid new
    (enumerated_more xs i x within is) front step
