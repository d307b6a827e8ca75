-- Members of lists.
use Rattle.std.proofs.Common.{
  ◌≡◌,
  ◌≢◌,
  ℕ,
  zero,
  suc,
  ◌<◌,
  ◌⊎◌,
  true,
  false,
  Some,
  List,
  [],
  ◌∷◌,
  ◌++◌,
  map,
  length,
  get_or,
  ℤ,
  inl,
  inr,
  refl,
  sym,
  ◌∙◌,
  ap,
  subst,
  arith,
}
use Rattle.std.specs.Prelude.{Contains, All, AllPairs, slice_get}
use Rattle.std.specs.Ordering.{int_eq}
use Rattle.std.specs.Cmp.{signed_Decides}
use Rattle.std.proofs.lemmas.Bool.{cases_Bool, false≢true}
use Rattle.std.proofs.lemmas.Cmp.{int_eq_equiv}
use Rattle.std.proofs.lemmas.List.{length-map, get_or-map, get_or_default}
use Rattle.std.proofs.lemmas.Map.Views.{list_any-from_Contains, Contains-from_any}
use Rattle.refute_check.specs.Literals.{is_among}

pub contains-here : {X : Type 0} (x : X) (xs : List X) → Contains (x ∷ xs) x
contains-here x xs = (zero, omega arith, refl)

pub contains-there : {X : Type 0} (x : X) (xs : List X) (y : X) → Contains xs y → Contains (x ∷ xs) y
contains-there x xs y (k, h, e) = (suc k, omega arith, e)

pub contains-cases : {X : Type 0} (x : X) (xs : List X) (y : X) → Contains (x ∷ xs) y → (x ≡ y) ⊎ Contains xs y
contains-cases x xs y (zero, h, e) = inl e
contains-cases x xs y (suc k, h, e) = inr (k, omega arith, e)

pub contains-none : {X : Type 0} (y : X) → Contains [] y → ⊥
contains-none y (k, h, e) = omega arith

pub contains-map : {X Y : Type 0} (f : X → Y) (xs : List X) (x : X) → Contains xs x → Contains (map f xs) (f x)
contains-map f xs x (k, h, e) = (k, omega (arith, length-map xs f), get_or-map f xs k x (f x) h ∙ ap f e)

pub contains-from_map : {X Y : Type 0} (f : X → Y) (xs : List X) (y : Y) → Contains (map f xs) y → (x : X) × Contains xs x × (f x ≡ y)
contains-from_map f [] y h = absurd (contains-none y h)
contains-from_map f (x ∷ xs) y h =
    elim (contains-cases (f x) (map f xs) y h) [
      | inl e ↦ (x, contains-here x xs, e)
      | inr r ↦ (let s = contains-from_map f xs y r in (s.0, contains-there x xs s.0 s.1, s.2))
    ]

pub all-from_contains : {X : Type 0} (P : X → Type 0) (xs : List X) → ((x : X) → Contains xs x → P x) → All P xs
all-from_contains P xs h = λ k d kl. h (get_or xs k d) (k, kl, get_or_default xs k (get_or xs k d) d kl)

pub among-from : (xs : List ℤ) (z : ℤ) → is_among xs z ≡ true → Contains xs z
among-from xs z h = Contains-from_any (λ x y e. (signed_Decides x y).0 e) z xs h

pub among-there : (xs : List ℤ) (z : ℤ) → Contains xs z → is_among xs z ≡ true
among-there xs z h = list_any-from_Contains int_eq_equiv z xs h

pub among-not : (xs : List ℤ) (z : ℤ) → (Contains xs z → ⊥) → is_among xs z ≡ false
among-not xs z h = elim (cases_Bool (is_among xs z)) [ inl e ↦ absurd (h (among-from xs z e)) | inr e ↦ e ]

-- two integers are the same or not
pub int-cases : (a b : ℤ) → ((int_eq a b ≡ true) × (a ≡ b)) ⊎ ((int_eq a b ≡ false) × (a ≢ b))
int-cases a b =
    elim (cases_Bool (int_eq a b)) [
      | inl e ↦ inl (e, (signed_Decides a b).0 e)
      | inr e ↦ inr (e, λ f. false≢true (sym e ∙ (signed_Decides a b).1 f))
    ]

pub all-pairs-tail : {X : Type 0} (R : X → X → Type 0) (x : X) (xs : List X) → AllPairs R (x ∷ xs) → AllPairs R xs
all-pairs-tail R x xs h i j d il jl = h (suc i) (suc j) d (omega arith) (omega arith)

pub all-pairs-head : {X : Type 0} (R : X → X → Type 0) (x : X) (xs : List X) (y : X) → AllPairs R (x ∷ xs) → Contains xs y → R x y
all-pairs-head R x xs y h (k, kl, e) = subst (λ z. R x z) e (h zero (suc k) y (omega arith) (omega arith))

pub slice_get-left : {X : Type 0} (xs : List X) (x : X) (k : ℕ) → k < length xs → slice_get (xs ++ x ∷ []) k ≡ slice_get xs k
slice_get-left [] x k h = absurd (omega arith)
slice_get-left (y ∷ xs) x zero h = refl
slice_get-left (y ∷ xs) x (suc k) h = slice_get-left xs x k (omega arith)

pub slice_get-last : {X : Type 0} (xs : List X) (x : X) (k : ℕ) → k ≡ length xs → slice_get (xs ++ x ∷ []) k ≡ Some x
slice_get-last [] x zero e = refl
slice_get-last [] x (suc k) e = absurd (omega arith)
slice_get-last (y ∷ xs) x zero e = absurd (omega arith)
slice_get-last (y ∷ xs) x (suc k) e = slice_get-last xs x k (omega arith)
