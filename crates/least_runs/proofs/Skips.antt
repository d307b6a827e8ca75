-- Lists without one of their elements.
use Rattle.std.proofs.Common.{◌≡◌, ◌∙◌, ◌⊎◌, inl, inr, ◌+◌, Bool, false, ◌||◌, cond, arith, List, [], ◌∷◌, ◌++◌, Option, Some, None, refl, sym, ap}
use Rattle.std.specs.Prelude.{fold, unwrap_or}
use Rattle.std.specs.List.{filter_map, cons_option, list_any, last_or, count_by}
use Rattle.run_follows.proofs.run_history.Lists.{last_or-push}

-- without an element that gives nothing, a filtered map is the same
pub skip_map : {X Y : Type 0} (f : X → Option Y) (xs : List X) (x : X) (ys : List X) → f x ≡ None → filter_map f (xs ++ x ∷ ys) ≡ filter_map f (xs ++ ys)
skip_map f [] x ys none = ap (λ o. cons_option o (filter_map f ys)) none
skip_map f (w ∷ xs) x ys none = ap (cons_option (f w)) (skip_map f xs x ys none)

-- without an element that fails, a test of any element is the same
pub skip_any : {X : Type 0} (p : X → Bool) (xs : List X) (x : X) (ys : List X) → p x ≡ false → list_any p (xs ++ x ∷ ys) ≡ list_any p (xs ++ ys)
skip_any p [] x ys fails = ap (λ b. b || list_any p ys) fails
skip_any p (w ∷ xs) x ys fails = ap (λ b. p w || b) (skip_any p xs x ys fails)

-- without an element that changes nothing, a fold is the same
pub skip_fold : {S X : Type 0} (f : S → X → S) (s : S) (xs : List X) (x : X) (ys : List X) → ((t : S) → f t x ≡ t)
    → fold f s (xs ++ x ∷ ys) ≡ fold f s (xs ++ ys)
skip_fold f s [] x ys still = ap (λ t. fold f t ys) (still s)
skip_fold f s (w ∷ xs) x ys still = skip_fold f (f s w) xs x ys still

pub skip_count : {X : Type 0} (p : X → Bool) (xs : List X) (x : X) (ys : List X) → p x ≡ false → count_by p (xs ++ x ∷ ys) ≡ count_by p (xs ++ ys)
skip_count p xs x ys fails = skip_fold (λ k y. k + cond (p y) 1 0) 0 xs x ys (λ k. ap (λ b. k + cond b 1 0) fails ∙ omega arith)

-- only the later elements decide the last one
last_behind : {A : Type 0} (o p : Option A) (xs : List A) (y : A) (ys : List A) → last_or o (xs ++ y ∷ ys) ≡ last_or p (y ∷ ys)
last_behind o p [] y ys = refl
last_behind o p (x ∷ xs) y ys = last_behind (Some x) p xs y ys

-- the last element is the one left out, or the last of the others
last_skips : {A : Type 0} (xs : List A) (x : A) (ys : List A)
    → (last_or None (xs ++ x ∷ ys) ≡ last_or None (xs ++ ys)) ⊎ (last_or None (xs ++ x ∷ ys) ≡ Some x)
last_skips xs x [] = inr (last_or-push None xs x)
last_skips xs x (y ∷ ys) = inl (last_behind None None xs x (y ∷ ys) ∙ sym (last_behind None None xs y ys))

pub last_of_skips : {A : Type 0} (xs : List (Option A)) (x : A) (ys : List (Option A))
    → (unwrap_or (last_or None (xs ++ Some x ∷ ys)) None ≡ unwrap_or (last_or None (xs ++ ys)) None)
    ⊎ (unwrap_or (last_or None (xs ++ Some x ∷ ys)) None ≡ Some x)
last_of_skips xs x ys =
    elim (last_skips xs (Some x) ys) [
      | inl e ↦ inl (ap (λ o. unwrap_or o None) e)
      | inr e ↦ inr (ap (λ o. unwrap_or o None) e)
    ]

-- an element of two joined lists is in the first or in the second
pub seam : {X : Type 0} (xs ys older newer : List X) (x : X) → xs ++ ys ≡ older ++ x ∷ newer
    → ((rest : List X) × (xs ≡ older ++ x ∷ rest)) ⊎ ((front : List X) × (older ≡ xs ++ front) × (ys ≡ front ++ x ∷ newer))
seam [] ys older newer x is = inr (older, refl, is)
seam (w ∷ xs) ys [] newer x is = inl (xs, cc)
seam (w ∷ xs) ys (v ∷ older) newer x is =
    let first : w ≡ v = cc in
    let rest : xs ++ ys ≡ older ++ x ∷ newer = cc in
    elim (seam xs ys older newer x rest) [
      | inl s ↦ inl (s.0, ap (λ zs. w ∷ zs) s.1 ∙ ap (λ z. z ∷ older ++ x ∷ s.0) first)
      | inr s ↦ inr (s.0, ap (λ z. z ∷ older) (sym first) ∙ ap (λ zs. w ∷ zs) s.1, s.2)
    ]
