-- Elements of lists.
use Rattle.std.proofs.Common.{◌≡◌, ◌∙◌, ℕ, zero, suc, ◌<◌, List, [], ◌∷◌, ◌++◌, take, length, Bool, true, false, cond}
use Rattle.std.proofs.Common.{Option, Some, None, refl, ap, subst, arith}
use Rattle.std.specs.Prelude.{slice_get}
use Rattle.std.specs.List.{AllByRecursion as Each, filter, filter_map, cons_option, find}
use Rattle.std.proofs.lemmas.Option.{none-some, same_Some, slice_get_within}
use Rattle.std.proofs.lemmas.List.{length-take-le}
use Rattle.sym_exec.proofs.list_laws.Lists.{get_front}
use Rattle.sym_laws.specs.Valued.{IsOneOf}

pub in_front : {X : Type 0} (x : X) (xs more : List X) → IsOneOf x xs → IsOneOf x (xs ++ more)
in_front x xs more is = (is.0, get_front xs more is.0 x is.1)

pub in_back : {X : Type 0} (x : X) (xs more : List X) → IsOneOf x more → IsOneOf x (xs ++ more)
in_back x [] more is = is
in_back x (y ∷ xs) more is = let rest = in_back x xs more is in (suc rest.0, rest.1)

pub each_is : {X : Type 0} (P : X → Type 0) (x : X) (xs : List X) → Each P xs → IsOneOf x xs → P x
each_is {X} P x xs each is = by xs is.0 each is.1
  where
    by : (xs : List X) (k : ℕ) → Each P xs → slice_get xs k ≡ Some x → P x
    by [] k each e = absurd (none-some x e)
    by (y ∷ xs) zero each e = subst P (same_Some y x e) each.0
    by (y ∷ xs) (suc k) each e = by xs k each.1 e

pub each_append : {X : Type 0} (P : X → Type 0) (xs ys : List X) → Each P xs → Each P ys → Each P (xs ++ ys)
each_append P [] ys f g = g
each_append P (x ∷ xs) ys f g = (f.0, each_append P xs ys f.1 g)

pub each_weaker : {X : Type 0} (P Q : X → Type 0) (xs : List X) → ((x : X) → P x → Q x) → Each P xs → Each Q xs
each_weaker P Q [] f each = tt
each_weaker P Q (x ∷ xs) f each = (f x each.0, each_weaker P Q xs f each.1)

pub none_pass : {X : Type 0} (p : X → Bool) (xs : List X) → Each (λ x. p x ≡ false) xs → filter p xs ≡ []
none_pass p [] each = refl
none_pass p (x ∷ xs) each = ap (λ b. cond b (x ∷ filter p xs) (filter p xs)) each.0 ∙ none_pass p xs each.1

-- if the first part of a list passes and the rest fails, the filter gives the first part
pub front_passes : {X : Type 0} (p : X → Bool) (xs ys : List X) → Each (λ x. p x ≡ true) xs → Each (λ x. p x ≡ false) ys → filter p (xs ++ ys) ≡ xs
front_passes p [] ys f g = none_pass p ys g
front_passes p (x ∷ xs) ys f g =
    ap (λ b. cond b (x ∷ filter p (xs ++ ys)) (filter p (xs ++ ys))) f.0 ∙ ap (λ zs. x ∷ zs) (front_passes p xs ys f.1 g)

-- the element that gives the only value given
pub giver : {X Y : Type 0} (f : X → Option Y) (xs : List X) (y : Y) → filter_map f xs ≡ y ∷ [] → (x : X) × IsOneOf x xs × (f x ≡ Some y)
giver f [] y e = absurd cc
giver {X} {Y} f (x ∷ xs) y e = by (f x) refl e (λ g. giver f xs y g)
  where
    by : (o : Option Y) → f x ≡ o → cons_option o (filter_map f xs) ≡ y ∷ [] → (filter_map f xs ≡ y ∷ [] → (z : X) × IsOneOf z xs × (f z ≡ Some y))
        → (z : X) × IsOneOf z (x ∷ xs) × (f z ≡ Some y)
    by None is e rest = let r = rest e in (r.0, (suc r.1.0, r.1.1), r.2)
    by (Some z) is e rest = let same : z ≡ y = cc in (x, (0, refl), is ∙ ap (λ w. Some w) same)

pub long_front : {X : Type 0} (xs : List X) (k : ℕ) (x : X) → slice_get xs k ≡ Some x → length (take k xs) ≡ k
long_front xs k x e = length-take-le k xs (omega (arith, slice_get_within xs k x e))

-- an element before a place is among those before it
pub get_take : {X : Type 0} (xs : List X) (k n : ℕ) → k < n → slice_get (take n xs) k ≡ slice_get xs k
get_take [] k zero lt = absurd (omega (arith, lt))
get_take [] k (suc n) lt = refl
get_take (x ∷ xs) k zero lt = absurd (omega (arith, lt))
get_take (x ∷ xs) zero (suc n) lt = refl
get_take (x ∷ xs) (suc k) (suc n) lt = get_take xs k n (omega (arith, lt))

-- the first element that passes is at a place before which none does
pub found_at : {X : Type 0} (p : X → Bool) (xs : List X) (k : ℕ) (x : X) → slice_get xs k ≡ Some x → p x ≡ true
    → ((j : ℕ) (y : X) → j < k → slice_get xs j ≡ Some y → p y ≡ false) → find p xs ≡ Some x
found_at p [] k x e here others = absurd (none-some x e)
found_at p (y ∷ xs) zero x e here others = ap (λ b. cond b (Some y) (find p xs)) (ap p (same_Some y x e) ∙ here) ∙ e
found_at p (y ∷ xs) (suc k) x e here others =
    ap (λ b. cond b (Some y) (find p xs)) (others 0 y (omega arith) refl)
    ∙ found_at p xs k x e here (λ j z lt at. others (suc j) z (omega (arith, lt)) at)
