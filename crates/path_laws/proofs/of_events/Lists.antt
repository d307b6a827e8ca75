-- Elements of lists.
use Rattle.std.proofs.Common.{◌≡◌, ◌∙◌, inl, inr, ℕ, zero, suc, ◌<◌, List, [], ◌∷◌, length, map, Bool, true, cond, Some, refl, ap, subst, arith, slice_index_or}
use Rattle.std.specs.Prelude.{slice_get}
use Rattle.std.specs.List.{AllByRecursion as Each, Contains, filter}
use Rattle.std.proofs.lemmas.Option.{none-some, same_Some}
use Rattle.run_follows.proofs.run_history.of_pending.In.{In}

pub in_map : {X Y : Type 0} (f : X → Y) (x : X) (xs : List X) → In x xs → In (f x) (map f xs)
in_map f x [] i = absurd i
in_map f x (y ∷ xs) (inl e) = inl (ap f e)
in_map f x (y ∷ xs) (inr i) = inr (in_map f x xs i)

pub from_map : {X Y : Type 0} (f : X → Y) (y : Y) (xs : List X) → In y (map f xs) → (x : X) × In x xs × (f x ≡ y)
from_map f y [] i = absurd i
from_map f y (x ∷ xs) (inl e) = (x, inl refl, e)
from_map f y (x ∷ xs) (inr i) = let rest = from_map f y xs i in (rest.0, inr rest.1, rest.2)

-- the element at a place is in the list
pub in_place : {X : Type 0} (x : X) (xs : List X) (k : ℕ) → slice_get xs k ≡ Some x → In x xs
in_place x [] k at = absurd (none-some x at)
in_place x (y ∷ xs) zero at = inl (same_Some y x at)
in_place x (y ∷ xs) (suc k) at = inr (in_place x xs k at)

-- the same in the terms of the library
pub contains_in : {X : Type 0} (x : X) (xs : List X) → In x xs → Contains xs x
contains_in x [] i = absurd i
contains_in x (y ∷ xs) (inl e) = (0, omega arith, e)
contains_in x (y ∷ xs) (inr i) = let rest = contains_in x xs i in (suc rest.0, omega (arith, rest.1), rest.2)

in_index : {X : Type 0} (x : X) (xs : List X) (k : ℕ) → k < length xs → slice_index_or xs k x ≡ x → In x xs
in_index x [] k lt e = absurd (omega (arith, lt))
in_index x (y ∷ xs) zero lt e = inl e
in_index x (y ∷ xs) (suc k) lt e = inr (in_index x xs k (omega (arith, lt)) e)

pub in_contains : {X : Type 0} (x : X) (xs : List X) → Contains xs x → In x xs
in_contains x xs c = in_index x xs c.0 c.1 c.2

-- a property of each element of a list holds for each one in it
pub each_in : {X : Type 0} (P : X → Type 0) (x : X) (xs : List X) → Each P xs → In x xs → P x
each_in P x [] each i = absurd i
each_in P x (y ∷ xs) each (inl e) = subst P e each.0
each_in P x (y ∷ xs) each (inr i) = each_in P x xs each.1 i

pub each_of : {X : Type 0} (P : X → Type 0) (xs : List X) → ((x : X) → In x xs → P x) → Each P xs
each_of P [] all = tt
each_of P (x ∷ xs) all = (all x (inl refl), each_of P xs (λ y i. all y (inr i)))

-- if all elements pass, the filtered list is the same
pub all_pass : {X : Type 0} (p : X → Bool) (xs : List X) → Each (λ x. p x ≡ true) xs → filter p xs ≡ xs
all_pass p [] each = refl
all_pass p (x ∷ xs) each = ap (λ b. cond b (x ∷ filter p xs) (filter p xs)) each.0 ∙ ap (λ ys. x ∷ ys) (all_pass p xs each.1)
