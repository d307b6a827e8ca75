-- Elements of derived lists, and elements that pass a test.
use Rattle.std.proofs.Common.{◌≡◌, ◌∙◌, ℕ, zero, suc, ◌+◌, ◌<◌, ◌⊎◌, inl, inr, Bool, true, false, cond, List, [], ◌∷◌, map, length, get_or}
use Rattle.std.proofs.Common.{Option, Some, None, refl, sym, ap, subst, arith}
use Rattle.std.specs.Prelude.{slice_get}
use Rattle.std.specs.List.{Contains, filter, filter_map, flat_map, cons_option, list_any, enumerate_from}
use Rattle.std.proofs.lemmas.Bool.{false≢true}
use Rattle.std.proofs.lemmas.Option.{none-some, same_Some, slice_get-get_or, get_or_from_slice_get, slice_get_within}
use Rattle.std.proofs.lemmas.List.Elements.{Contains-append_left, Contains-append_right, Contains-append_cases}
use Rattle.std.proofs.lemmas.List.Folds.{Any-from_list_any, list_any-from_Any}

-- the first element, and one of the others
pub in_front : {X : Type 0} (x : X) (xs : List X) → Contains (x ∷ xs) x
in_front x xs = (0, omega arith, refl)

pub in_back : {X : Type 0} (y x : X) (xs : List X) → Contains xs y → Contains (x ∷ xs) y
in_back y x xs i = (suc i.0, omega (arith, i.1), i.2)

pub of_nil : {X : Type 0} (y : X) → Contains [] y → ⊥
of_nil y i = omega (arith, i.1)

pub of_cons : {X : Type 0} (y x : X) (xs : List X) → Contains (x ∷ xs) y → (x ≡ y) ⊎ Contains xs y
of_cons {X} y x xs i = by i.0 i.1 i.2
  where
    by : (k : ℕ) → k < length (x ∷ xs) → get_or (x ∷ xs) k y ≡ y → (x ≡ y) ⊎ Contains xs y
    by zero lt at = inl at
    by (suc k) lt at = inr (k, omega (arith, lt), at)

-- an element of a list that isn't empty
pub some_of : {X : Type 0} (xs : List X) (i : ℕ) → i < length xs → X
some_of [] i within = absurd (omega (arith, within))
some_of (x ∷ xs) i within = x

-- an element by its place
pub at_in : {X : Type 0} (xs : List X) (k : ℕ) (x : X) → slice_get xs k ≡ Some x → Contains xs x
at_in xs k x at = (k, slice_get_within xs k x at, get_or_from_slice_get xs k x x at)

pub in_at : {X : Type 0} (xs : List X) (x : X) → Contains xs x → (k : ℕ) × (slice_get xs k ≡ Some x)
in_at xs x i = (i.0, slice_get-get_or xs i.0 x i.1 ∙ ap (λ y. Some y) i.2)

-- images
pub in_map : {X Y : Type 0} (f : X → Y) (x : X) (xs : List X) → Contains xs x → Contains (map f xs) (f x)
in_map f x [] i = absurd (of_nil x i)
in_map f x (z ∷ zs) i = elim (of_cons x z zs i) [
  | inl same ↦ subst (λ y. Contains (map f (z ∷ zs)) (f y)) same (in_front (f z) (map f zs))
  | inr rest ↦ in_back (f x) (f z) (map f zs) (in_map f x zs rest)
]

pub of_map : {X Y : Type 0} (f : X → Y) (y : Y) (xs : List X) → Contains (map f xs) y → (x : X) × Contains xs x × (f x ≡ y)
of_map f y [] i = absurd (of_nil y i)
of_map f y (z ∷ zs) i = elim (of_cons y (f z) (map f zs) i) [
  | inl same ↦ (z, in_front z zs, same)
  | inr rest ↦ let o = of_map f y zs rest in (o.0, in_back o.0 z zs o.1, o.2)
]

pub in_flat_map : {X Y : Type 0} (f : X → List Y) (x : X) (y : Y) (xs : List X) → Contains xs x → Contains (f x) y → Contains (flat_map f xs) y
in_flat_map f x y [] i j = absurd (of_nil x i)
in_flat_map f x y (z ∷ zs) i j = elim (of_cons x z zs i) [
  | inl same ↦ Contains-append_left (f z) (flat_map f zs) y (subst (λ a. Contains (f a) y) (sym same) j)
  | inr rest ↦ Contains-append_right (f z) (flat_map f zs) y (in_flat_map f x y zs rest j)
]

pub of_flat_map : {X Y : Type 0} (f : X → List Y) (y : Y) (xs : List X) → Contains (flat_map f xs) y → (x : X) × Contains xs x × Contains (f x) y
of_flat_map f y [] i = absurd (of_nil y i)
of_flat_map f y (z ∷ zs) i = elim (Contains-append_cases (f z) (flat_map f zs) y i) [
  | inl here ↦ (z, in_front z zs, here)
  | inr rest ↦ let o = of_flat_map f y zs rest in (o.0, in_back o.0 z zs o.1, o.2)
]

-- the elements that pass a test
pub in_filter : {X : Type 0} (p : X → Bool) (x : X) (xs : List X) → Contains xs x → p x ≡ true → Contains (filter p xs) x
in_filter p x [] i hit = absurd (of_nil x i)
in_filter {X} p x (z ∷ zs) i hit = elim (of_cons x z zs i) [
  | inl same ↦ first (p z) (ap p same ∙ hit) same
  | inr rest ↦ further (p z) (in_filter p x zs rest hit)
]
  where
    first : (b : Bool) → b ≡ true → z ≡ x → Contains (cond b (z ∷ filter p zs) (filter p zs)) x
    first true e same = subst (λ y. Contains (z ∷ filter p zs) y) same (in_front z (filter p zs))
    first false e same = absurd (false≢true e)

    further : (b : Bool) → Contains (filter p zs) x → Contains (cond b (z ∷ filter p zs) (filter p zs)) x
    further true j = in_back x z (filter p zs) j
    further false j = j

pub of_filter : {X : Type 0} (p : X → Bool) (x : X) (xs : List X) → Contains (filter p xs) x → Contains xs x × (p x ≡ true)
of_filter p x [] i = absurd (of_nil x i)
of_filter {X} p x (z ∷ zs) i = by (p z) refl i (of_filter p x zs)
  where
    behind : Contains zs x × (p x ≡ true) → Contains (z ∷ zs) x × (p x ≡ true)
    behind o = (in_back x z zs o.0, o.1)

    by : (b : Bool) → p z ≡ b → Contains (cond b (z ∷ filter p zs) (filter p zs)) x → (Contains (filter p zs) x → Contains zs x × (p x ≡ true))
        → Contains (z ∷ zs) x × (p x ≡ true)
    by true hit j rest = elim (of_cons x z (filter p zs) j) [
      | inl same ↦ (subst (λ y. Contains (z ∷ zs) y) same (in_front z zs), ap p (sym same) ∙ hit)
      | inr more ↦ behind (rest more)
    ]
    by false miss j rest = behind (rest j)

pub in_filter_map : {X Y : Type 0} (h : X → Option Y) (x : X) (y : Y) (xs : List X) → Contains xs x → h x ≡ Some y → Contains (filter_map h xs) y
in_filter_map h x y [] i gives = absurd (of_nil x i)
in_filter_map {X} {Y} h x y (z ∷ zs) i gives = elim (of_cons x z zs i) [
  | inl same ↦ subst (λ o. Contains (cons_option o (filter_map h zs)) y) (sym (ap h same ∙ gives)) (in_front y (filter_map h zs))
  | inr rest ↦ further (h z) (in_filter_map h x y zs rest gives)
]
  where
    further : (o : Option Y) → Contains (filter_map h zs) y → Contains (cons_option o (filter_map h zs)) y
    further None j = j
    further (Some a) j = in_back y a (filter_map h zs) j

-- an element from which a function gives this
abbrev Giver : {X Y : Type 0} → (X → Option Y) → Y → List X → Type 0
Giver {X} h y xs = (x : X) × Contains xs x × (h x ≡ Some y)

pub of_filter_map : {X Y : Type 0} (h : X → Option Y) (y : Y) (xs : List X) → Contains (filter_map h xs) y → Giver h y xs
of_filter_map h y [] i = absurd (of_nil y i)
of_filter_map {X} {Y} h y (z ∷ zs) i = by (h z) refl i (of_filter_map h y zs)
  where
    behind : Giver h y zs → Giver h y (z ∷ zs)
    behind o = (o.0, in_back o.0 z zs o.1, o.2)

    by : (o : Option Y) → h z ≡ o → Contains (cons_option o (filter_map h zs)) y → (Contains (filter_map h zs) y → Giver h y zs) → Giver h y (z ∷ zs)
    by None is j rest = behind (rest j)
    by (Some a) is j rest = elim (of_cons y a (filter_map h zs) j) [
      | inl same ↦ (z, in_front z zs, is ∙ ap (λ b. Some b) same)
      | inr more ↦ behind (rest more)
    ]

-- elements with their places
in_places : {X : Type 0} (n k m : ℕ) (x : X) (xs : List X) → n + k ≡ m → slice_get xs k ≡ Some x → Contains (enumerate_from n xs) (m, x)
in_places n k m x [] sum at = absurd (none-some x at)
in_places n zero m x (z ∷ zs) sum at =
    let here : n ≡ m = omega (arith, sum) in
    subst (λ (e : ℕ × _). Contains (enumerate_from n (z ∷ zs)) e) (ap (λ a. (a, z)) here ∙ ap (λ b. (m, b)) (same_Some z x at))
    (in_front (n, z) (enumerate_from (n + 1) zs))
in_places n (suc k) m x (z ∷ zs) sum at = in_back (m, x) (n, z) (enumerate_from (n + 1) zs) (in_places (n + 1) k m x zs (omega (arith, sum)) at)

of_places : {X : Type 0} (n : ℕ) (e : ℕ × X) (xs : List X) → Contains (enumerate_from n xs) e → (k : ℕ) × (n + k ≡ e.0) × (slice_get xs k ≡ Some e.1)
of_places n e [] i = absurd (of_nil e i)
of_places n e (z ∷ zs) i = elim (of_cons e (n, z) (enumerate_from (n + 1) zs) i) [
  | inl same ↦ (0, omega (arith, ap (λ p. p.0) same), ap (λ p. Some p.1) same)
  | inr rest ↦ let o = of_places (n + 1) e zs rest in (suc o.0, omega (arith, o.1), o.2)
]

pub in_enumerated : {X : Type 0} (k : ℕ) (x : X) (xs : List X) → slice_get xs k ≡ Some x → Contains (enumerate_from 0 xs) (k, x)
in_enumerated k x xs at = in_places 0 k k x xs (omega arith) at

pub of_enumerated : {X : Type 0} (e : ℕ × X) (xs : List X) → Contains (enumerate_from 0 xs) e → slice_get xs e.0 ≡ Some e.1
of_enumerated e xs i =
    let o = of_places 0 e xs i in
    let same : o.0 ≡ e.0 = omega (arith, o.1) in
    subst (λ k. slice_get xs k ≡ Some e.1) same o.2

-- one that passes a test
pub any_in : {X : Type 0} (p : X → Bool) (x : X) (xs : List X) → Contains xs x → p x ≡ true → list_any p xs ≡ true
any_in p x xs i hit = list_any-from_Any p xs (i.0, x, i.1, i.2, hit)

pub of_any : {X : Type 0} (p : X → Bool) (xs : List X) → list_any p xs ≡ true → (x : X) × Contains xs x × (p x ≡ true)
of_any p xs any = let o = Any-from_list_any p xs any in (o.1, (o.0, o.2, o.3), o.4)
