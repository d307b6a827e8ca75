-- Lists and their elements.
use Rattle.std.proofs.Common.{◌≡◌, ℕ, ◌<◌, List, [], ◌∷◌, ◌++◌, Some, refl, ap, sym, ◌∙◌, subst, arith, Bool, true, false, length, get_or, map, inl, inr, eq-eqb}
use Rattle.std.specs.Prelude.{◌&&◌, ◌||◌, ◌==◌, ◌⊎◌}
use Rattle.std.specs.List.{All, Contains, IsDistinct, flat_map, list_all, list_any}
use Rattle.std.proofs.lemmas.Bool.{false≢true, and_from, and_parts, cases_order}
use Rattle.std.proofs.lemmas.List.{get_or-map, get_or_append_left, get_or_default, length-map}
use Rattle.std.proofs.lemmas.Map.Keys.{apart_from_distinct}
use Rattle.std.proofs.lemmas.List.Elements.{All-nil, All-append, All-cons, Contains-append_cases, Contains-append_left, Contains-append_right, Contains-push, Contains-push_cases}
use Rattle.std.proofs.lemmas.List.Folds.{list_all-append}
use Rattle.std.proofs.lemmas.Option.{get_or_from_slice_get, slice_get-get_or}

pub contains_first : {X : Type 0} (x : X) (xs : List X) → Contains (x ∷ xs) x
contains_first x xs = Contains-append_left (x ∷ []) xs x (Contains-push [] x)

pub contains_later : {X : Type 0} (x y : X) (xs : List X) → Contains xs y → Contains (x ∷ xs) y
contains_later x y xs h = Contains-append_right (x ∷ []) xs y h

pub contains_none : {X : Type 0} (y : X) → Contains [] y → ⊥
contains_none y h = omega (arith, h.1)

pub contains_cases : {X : Type 0} (x y : X) (xs : List X) → Contains (x ∷ xs) y → (x ≡ y) ⊎ Contains xs y
contains_cases x y xs h = elim (Contains-append_cases (x ∷ []) xs y h) [
  | inl first ↦ elim (Contains-push_cases [] x y first) [ inl none ↦ absurd (contains_none y none) | inr is ↦ inl is ]
  | inr later ↦ inr later
]

pub contains_map : {X Y : Type 0} (f : X → Y) (xs : List X) (x : X) → Contains xs x → Contains (map f xs) (f x)
contains_map f xs x h = (
  h.0,
  (let e : length (map f xs) ≡ length xs = length-map xs f in omega (arith, e, h.1)),
  get_or-map f xs h.0 x (f x) h.1 ∙ ap f h.2,
)

-- an element at a place within the first of two lists is in the first list
pub contains_start : {X : Type 0} (xs ys : List X) (d : X) (n : ℕ) → n < length xs → Contains xs (get_or (xs ++ ys) n d)
contains_start xs ys d n below =
    let x = get_or (xs ++ ys) n d in
    (n, below, get_or_from_slice_get xs n x x (slice_get-get_or xs n d below ∙ ap Some (sym (get_or_append_left xs ys d n below))))

-- what holds for each element holds for all
pub all_of : {X : Type 0} (P : X → Type 0) (xs : List X) → ((x : X) → Contains xs x → P x) → All P xs
all_of P [] h = All-nil P
all_of P (x ∷ xs) h = All-cons P x xs (h x (contains_first x xs)) (all_of P xs (λ y there. h y (contains_later x y xs there)))

pub all_flat_map : {X Y : Type 0} (P : Y → Type 0) (f : X → List Y) (xs : List X) → ((x : X) → Contains xs x → All P (f x)) → All P (flat_map f xs)
all_flat_map P f [] h = All-nil P
all_flat_map P f (x ∷ xs) h =
    All-append P (f x) (flat_map f xs) (h x (contains_first x xs)) (all_flat_map P f xs (λ y there. h y (contains_later x y xs there)))

pub passes_all : {X : Type 0} (p : X → Bool) (xs : List X) → ((x : X) → Contains xs x → p x ≡ true) → list_all p xs ≡ true
passes_all p [] h = refl
passes_all p (x ∷ xs) h = and_from _ _ (h x (contains_first x xs)) (passes_all p xs (λ y there. h y (contains_later x y xs there)))

pub all_pass : {X : Type 0} (p : X → Bool) (xs : List X) (x : X) → list_all p xs ≡ true → Contains xs x → p x ≡ true
all_pass p [] x h there = absurd (contains_none x there)
all_pass p (y ∷ ys) x h there = elim (contains_cases y x ys there) [
  | inl is ↦ ap p (sym is) ∙ (and_parts (p y) (list_all p ys) h).0
  | inr later ↦ all_pass p ys x (and_parts (p y) (list_all p ys) h).1 later
]

pub passes_flat_map : {X Y : Type 0} (p : Y → Bool) (f : X → List Y) (xs : List X) → ((x : X) → Contains xs x → list_all p (f x) ≡ true)
    → list_all p (flat_map f xs) ≡ true
passes_flat_map p f [] h = refl
passes_flat_map p f (x ∷ xs) h =
    list_all-append p (f x) (flat_map f xs)
    ∙ and_from _ _ (h x (contains_first x xs)) (passes_flat_map p f xs (λ y there. h y (contains_later x y xs there)))

pub flat_map_passes : {X Y : Type 0} (p : Y → Bool) (f : X → List Y) (xs : List X) (x : X) → list_all p (flat_map f xs) ≡ true → Contains xs x
    → list_all p (f x) ≡ true
flat_map_passes p f [] x h there = absurd (contains_none x there)
flat_map_passes p f (y ∷ ys) x h there =
    let parts = and_parts (list_all p (f y)) (list_all p (flat_map f ys)) (sym (list_all-append p (f y) (flat_map f ys)) ∙ h) in
    elim (contains_cases y x ys there) [
      | inl is ↦ ap (λ z. list_all p (f z)) (sym is) ∙ parts.0
      | inr later ↦ flat_map_passes p f ys x parts.1 later
    ]

-- whether some element passes
or_right : (p q : Bool) → q ≡ true → (p || q) ≡ true
or_right true q h = refl
or_right false q h = h

or_left : (p q : Bool) → p ≡ true → (p || q) ≡ true
or_left true q h = refl
or_left false q h = absurd (false≢true h)

pub any_of : {X : Type 0} (p : X → Bool) (xs : List X) (x : X) → Contains xs x → p x ≡ true → list_any p xs ≡ true
any_of p [] x there h = absurd (contains_none x there)
any_of p (y ∷ ys) x there h = elim (contains_cases y x ys there) [
  | inl is ↦ or_left (p y) (list_any p ys) (ap p is ∙ h)
  | inr later ↦ or_right (p y) (list_any p ys) (any_of p ys x later h)
]

some_from : {X : Type 0} (p : X → Bool) (y : X) (ys : List X) (b : Bool) → p y ≡ b → (b || list_any p ys) ≡ true
    → (list_any p ys ≡ true → (x : X) × Contains ys x × (p x ≡ true)) → (x : X) × Contains (y ∷ ys) x × (p x ≡ true)
some_from p y ys true e h later = (y, contains_first y ys, e)
some_from p y ys false e h later = let rest = later h in (rest.0, contains_later y rest.0 ys rest.1, rest.2)

pub some_passes : {X : Type 0} (p : X → Bool) (xs : List X) → list_any p xs ≡ true → (x : X) × Contains xs x × (p x ≡ true)
some_passes p [] h = absurd (false≢true h)
some_passes p (y ∷ ys) h = some_from p y ys (p y) refl h (λ k. some_passes p ys k)

fails_from : {X : Type 0} (p : X → Bool) (y : X) (ys : List X) (b : Bool) → p y ≡ b → (b && list_all p ys) ≡ false
    → (list_all p ys ≡ false → (x : X) × Contains ys x × (p x ≡ false)) → (x : X) × Contains (y ∷ ys) x × (p x ≡ false)
fails_from p y ys true e h later = let rest = later h in (rest.0, contains_later y rest.0 ys rest.1, rest.2)
fails_from p y ys false e h later = (y, contains_first y ys, e)

pub some_fails : {X : Type 0} (p : X → Bool) (xs : List X) → list_all p xs ≡ false → (x : X) × Contains xs x × (p x ≡ false)
some_fails p [] h = absurd (false≢true (sym h))
some_fails p (y ∷ ys) h = fails_from p y ys (p y) refl h (λ k. some_fails p ys k)

pub any_map : {X Y : Type 0} (p : Y → Bool) (f : X → Y) (xs : List X) → list_any p (map f xs) ≡ list_any (λ x. p (f x)) xs
any_map p f [] = refl
any_map p f (x ∷ xs) = ap (λ b. p (f x) || b) (any_map p f xs)

-- distinct numbers occur at only one place
pub one_place : (xs : List ℕ) (i j : ℕ) → IsDistinct (λ e d. e == d) xs → i < length xs → j < length xs → get_or xs i 0 ≡ get_or xs j 0 → i ≡ j
one_place xs i j h p q same = elim (cases_order i j) [
  | inl one ↦ one
  | inr (inl less) ↦ absurd (differs i j less q same)
  | inr (inr more) ↦ absurd (differs j i more p (sym same))
]
  where
    differs : (i j : ℕ) → i < j → j < length xs → get_or xs i 0 ≡ get_or xs j 0 → ⊥
    differs i j less inside e = false≢true (sym (apart_from_distinct (λ e d. e == d) xs i j 0 h less inside) ∙ eq-eqb (get_or xs i 0) (get_or xs j 0) e)

-- elements with distinct keys are equal if their keys are
pub one_element : {X : Type 0} (key : X → ℕ) (xs : List X) (x y : X) → IsDistinct (λ e d. e == d) (map key xs) → Contains xs x → Contains xs y
    → key x ≡ key y → x ≡ y
one_element key xs x y h p q same =
    let long : length (map key xs) ≡ length xs = length-map xs key in
    let at_x : get_or (map key xs) p.0 0 ≡ key x = get_or-map key xs p.0 x 0 p.1 ∙ ap key p.2 in
    let at_y : get_or (map key xs) q.0 0 ≡ key y = get_or-map key xs q.0 y 0 q.1 ∙ ap key q.2 in
    let place : p.0 ≡ q.0 = one_place (map key xs) p.0 q.0 h (omega (arith, long, p.1)) (omega (arith, long, q.1)) (at_x ∙ same ∙ sym at_y) in
    sym p.2 ∙ get_or_default xs p.0 x y p.1 ∙ ap (λ k. get_or xs k y) place ∙ q.2

-- two lists, related place by place
abbrev pub AreTied : {X Y : Type 0} → (X → Y → Type 0) → List X → List Y → Type 0
AreTied R [] [] = Unit {0}
AreTied R [] (y ∷ ys) = ⊥
AreTied R (x ∷ xs) [] = ⊥
AreTied R (x ∷ xs) (y ∷ ys) = R x y × AreTied R xs ys

pub tied_to : {X Y : Type 0} (R : X → Y → Type 0) (xs : List X) (ys : List Y) (y : Y) → AreTied R xs ys → Contains ys y → (x : X) × Contains xs x × R x y
tied_to R [] [] y h there = absurd (contains_none y there)
tied_to R [] (b ∷ ys) y h there = absurd h
tied_to R (a ∷ xs) [] y h there = absurd h
tied_to R (a ∷ xs) (b ∷ ys) y h there = elim (contains_cases b y ys there) [
  | inl is ↦ (a, contains_first a xs, subst (R a) is h.0)
  | inr later ↦ let rest = tied_to R xs ys y h.1 later in (rest.0, contains_later a rest.0 xs rest.1, rest.2)
]

pub tied_from : {X Y : Type 0} (R : X → Y → Type 0) (xs : List X) (ys : List Y) (x : X) → AreTied R xs ys → Contains xs x → (y : Y) × Contains ys y × R x y
tied_from R [] [] x h there = absurd (contains_none x there)
tied_from R [] (b ∷ ys) x h there = absurd h
tied_from R (a ∷ xs) [] x h there = absurd h
tied_from R (a ∷ xs) (b ∷ ys) x h there = elim (contains_cases a x xs there) [
  | inl is ↦ (b, contains_first b ys, subst (λ z. R z b) is h.0)
  | inr later ↦ let rest = tied_from R xs ys x h.1 later in (rest.0, contains_later b rest.0 ys rest.1, rest.2)
]
