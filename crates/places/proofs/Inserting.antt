-- What waits after a place was added.
use Rattle.std.proofs.Common.{◌≡◌, ◌∙◌, ◌⊎◌, inl, inr, ℕ, zero, suc, List, [], ◌∷◌, ◌++◌, drop, Ordering, Less, Equal, Greater, refl, ap, sym, arith, length, Vec, slice_index_or}
use Rattle.std.specs.Global.{Global}
use Rattle.std.specs.List.{Contains, flat_map}
use Rattle.std.specs.BTreeMap.{insert_entry}
use Rattle.std.specs.Ordering.{match_ordering}
use Rattle.std.proofs.lemmas.Map.Lookups.{exact_bytes}
use Rattle.places.specs.declared.place.Round.{Round}
use Rattle.places.specs.Places.{Place, key}
use Rattle.places.specs.helpers.Waiting.{Waiting, by_items}

abbrev pub Entry : Type 0
Entry = Vec ℕ Global × Place

-- membership of a list, by its first element
pub here : {X : Type 0} (x y : X) (xs : List X) → x ≡ y → Contains (x ∷ xs) y
here x y xs e = (0, omega arith, e)

pub there : {X : Type 0} (x y : X) (xs : List X) → Contains xs y → Contains (x ∷ xs) y
there x y xs c = (suc c.0, omega (arith, c.1), c.2)

pub split : {X : Type 0} (x y : X) (xs : List X) → Contains (x ∷ xs) y → (x ≡ y) ⊎ Contains xs y
split x y xs (zero, low, e) = inl e
split x y xs (suc k, low, e) = inr (k, omega (arith, low), e)

pub none : {X : Type 0} (y : X) → Contains [] y → ⊥
none y c = omega (arith, c.1)

-- each place waits by its own key
abbrev pub IsKeyed : Waiting → Type 0
IsKeyed w = (e : Vec ℕ Global × Place) → Contains w e → e.0.items ≡ key e.1

abbrev first_of : List ℕ → ℕ
first_of xs = slice_index_or xs 0 0

abbrev numbers : List Round → List ℕ
numbers rs = flat_map (λ r. r.first ∷ r.number ∷ []) rs

same_rounds : (rs ss : List Round) (i j : ℕ) → numbers rs ++ i ∷ [] ≡ numbers ss ++ j ∷ [] → (rs ≡ ss) × (i ≡ j)
same_rounds [] [] i j e = (refl, ap first_of e)
same_rounds [] (s ∷ ss) i j e = absurd (omega (arith, ap length e))
same_rounds (r ∷ rs) [] i j e = absurd (omega (arith, ap length e))
same_rounds (r ∷ rs) (s ∷ ss) i j e =
    let rest = same_rounds rs ss i j (ap (drop 2) e) in
    let first : r.first ≡ s.first = ap first_of e in
    let number : r.number ≡ s.number = ap (λ xs. first_of (drop 1 xs)) e in
    let same : r ≡ s = ap (λ f. record { first = f; number = r.number }) first ∙ ap (λ n. record { first = s.first; number = n }) number in
    (ap (λ t. t ∷ rs) same ∙ ap (λ ts. s ∷ ts) rest.0, rest.1)

-- places with the same key are one
pub one_key : (p q : Place) → key p ≡ key q → p ≡ q
one_key p q e =
    let it = same_rounds p.rounds q.rounds p.instruction q.instruction e in
    ap (λ rs. record { instruction = p.instruction; rounds = rs }) it.0 ∙ ap (λ i. record { instruction = i; rounds = q.rounds }) it.1

module _ (k : Vec ℕ Global) (q : Place) (keyed : k.items ≡ key q) where
  abbrev pub after : Waiting → Waiting
  after w = insert_entry by_items w k q

  pub origin : (w : Waiting) (e : Entry) → Contains (after w) e → ((e.1 ≡ q) × (e.0.items ≡ key q)) ⊎ Contains w e
  origin [] e c = elim (split (k, q) e [] c) [ inl same ↦ inl (ap (λ d. d.1) (sym same), ap (λ d. d.0.items) (sym same) ∙ keyed) | inr n ↦ absurd (none e n) ]
  origin (d ∷ ds) e c = go (origin ds e) (by_items k d.0) refl c where
    go : (Contains (after ds) e → ((e.1 ≡ q) × (e.0.items ≡ key q)) ⊎ Contains ds e) → (o : Ordering) → o ≡ by_items k d.0 → Contains (match_ordering o ((k, q) ∷ d ∷ ds) ((d.0, q) ∷ ds) (d ∷ after ds)) e
        → ((e.1 ≡ q) × (e.0.items ≡ key q)) ⊎ Contains (d ∷ ds) e
    go rec Less is c = elim (split (k, q) e (d ∷ ds) c) [
      | inl same ↦ inl (ap (λ d. d.1) (sym same), ap (λ d. d.0.items) (sym same) ∙ keyed)
      | inr rest ↦ inr rest
    ]
    go rec Equal is c = elim (split (d.0, q) e ds c) [
      | inl same ↦ inl (ap (λ d. d.1) (sym same), ap (λ d. d.0.items) (sym same) ∙ sym (exact_bytes k.items d.0.items (sym is)) ∙ keyed)
      | inr rest ↦ inr (there d e ds rest)
    ]
    go rec Greater is c = elim (split d e (after ds) c) [
      | inl same ↦ inr (here d e ds same)
      | inr rest ↦ elim (rec rest) [ inl it ↦ inl it | inr old ↦ inr (there d e ds old) ]
    ]

  -- the added place waits
  pub added : (w : Waiting) → (e : Entry) × Contains (after w) e × (e.1 ≡ q)
  added [] = ((k, q), here (k, q) (k, q) [] refl, refl)
  added (d ∷ ds) = go (added ds) (by_items k d.0) where
    go : ((e : Entry) × Contains (after ds) e × (e.1 ≡ q)) → (o : Ordering) → (e : Entry) × Contains (match_ordering o ((k, q) ∷ d ∷ ds) ((d.0, q) ∷ ds) (d ∷ after ds)) e × (e.1 ≡ q)
    go it Less = ((k, q), here (k, q) (k, q) (d ∷ ds) refl, refl)
    go it Equal = ((d.0, q), here (d.0, q) (d.0, q) ds refl, refl)
    go it Greater = (it.0, there d it.0 (after ds) it.1, it.2)

  -- what waited still does
  pub stays : (w : Waiting) → IsKeyed w → (e : Entry) → Contains w e → (f : Entry) × Contains (after w) f × (f.1 ≡ e.1)
  stays [] ok e c = absurd (none e c)
  stays (d ∷ ds) ok e c = go (stays ds (λ f g. ok f (there d f ds g)) e) (by_items k d.0) refl where
    go : (Contains ds e → (f : Entry) × Contains (after ds) f × (f.1 ≡ e.1)) → (o : Ordering) → o ≡ by_items k d.0 → (f : Entry) × Contains (match_ordering o ((k, q) ∷ d ∷ ds) ((d.0, q) ∷ ds) (d ∷ after ds)) f × (f.1 ≡ e.1)
    go rec Less is = (e, there (k, q) e (d ∷ ds) c, refl)
    go rec Equal is = elim (split d e ds c) [
      | inl same ↦
          let one : q ≡ d.1 = one_key q d.1 (sym keyed ∙ exact_bytes k.items d.0.items (sym is) ∙ ok d (here d d ds refl)) in
          ((d.0, q), here (d.0, q) (d.0, q) ds refl, one ∙ ap (λ x. x.1) same)
      | inr rest ↦ (e, there (d.0, q) e ds rest, refl)
    ]
    go rec Greater is = elim (split d e ds c) [
      | inl same ↦ (d, here d d (after ds) refl, ap (λ x. x.1) same)
      | inr rest ↦ let it = rec rest in (it.0, there d it.0 (after ds) it.1, it.2)
    ]
