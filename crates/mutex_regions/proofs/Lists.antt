-- Tests, lists and filters.
use Rattle.std.proofs.Common.{◌≡◌, ℕ, zero, suc, ◌+◌, ◌<◌, Bool, true, false, cond, List, [], ◌∷◌, Some, inl, inr, refl, ap, sym, subst, ◌∙◌, arith}
use Rattle.std.specs.Prelude.{filter, slice_get}
use Rattle.std.specs.List.{Contains, enumerate_from, list_all, list_any, range_with_len}
use Rattle.std.proofs.lemmas.Bool.{and_parts}
use Rattle.std.proofs.lemmas.List.Folds.{Any-from_list_any, list_any-from_Any}
use Rattle.std.proofs.lemmas.Option.{none-some, same_Some}
use Rattle.order_events.proofs.Lists.{in_back, in_front, of_cons, of_nil}

-- two tests that imply each other are the same
pub same_test : (x y : Bool) → (x ≡ true → y ≡ true) → (y ≡ true → x ≡ true) → x ≡ y
same_test true y f g = sym (f refl)
same_test false true f g = g refl
same_test false false f g = refl

-- tests that agree on the elements keep the same ones
pub filter_same : {X : Type 0} (p q : X → Bool) (xs : List X) → ((x : X) → Contains xs x → p x ≡ q x) → filter p xs ≡ filter q xs
filter_same p q [] same = refl
filter_same p q (x ∷ xs) same =
    ap (λ b. cond b (x ∷ filter p xs) (filter p xs)) (same x (in_front x xs))
    ∙ ap (λ ys. cond (q x) (x ∷ ys) ys) (filter_same p q xs (λ y i. same y (in_back y x xs i)))

-- a test of all, and of some
pub of_all : {X : Type 0} (p : X → Bool) (xs : List X) (x : X) → list_all p xs ≡ true → Contains xs x → p x ≡ true
of_all p [] x all i = absurd (of_nil x i)
of_all {X} p (y ∷ ys) x all i =
    let h = and_parts (p y) (list_all p ys) all in
    elim (of_cons x y ys i) [
      | inl same ↦ ap p (sym same) ∙ h.0
      | inr rest ↦ of_all p ys x h.1 rest
    ]

pub of_any : {X : Type 0} (p : X → Bool) (xs : List X) → list_any p xs ≡ true → (x : X) × Contains xs x × (p x ≡ true)
of_any p xs some = let a = Any-from_list_any p xs some in (a.1, (a.0, a.2, a.3), a.4)

pub any_of : {X : Type 0} (p : X → Bool) (xs : List X) (x : X) → Contains xs x → p x ≡ true → list_any p xs ≡ true
any_of p xs x i hit = list_any-from_Any p xs (i.0, x, i.1, i.2, hit)

-- numbers up to a length
pub in_range : (a n k : ℕ) → k < n → Contains (range_with_len a n) (a + k)
in_range a zero k within = absurd (omega (arith, within))
in_range a (suc n) zero within = subst (λ m. Contains (range_with_len a (suc n)) m) (let e : a ≡ a + 0 = omega arith in e) (in_front a (range_with_len (a + 1) n))
in_range a (suc n) (suc k) within =
    in_back (a + suc k) a (range_with_len (a + 1) n)
    (subst (λ m. Contains (range_with_len (a + 1) n) m) (let e : a + 1 + k ≡ a + suc k = omega arith in e) (in_range (a + 1) n k (omega (arith, within))))

pub of_range : (a n k : ℕ) → Contains (range_with_len a n) k → k < a + n
of_range a zero k i = absurd (of_nil k i)
of_range a (suc n) k i = elim (of_cons k a (range_with_len (a + 1) n) i) [
  | inl same ↦ omega (arith, same)
  | inr rest ↦ omega (arith, of_range (a + 1) n k rest)
]

-- an element with its place
pub at_enumerated : {X : Type 0} (n : ℕ) (xs : List X) (k : ℕ) (p : ℕ × X) → slice_get (enumerate_from n xs) k ≡ Some p
    → (p.0 ≡ n + k) × (slice_get xs k ≡ Some p.1)
at_enumerated n [] k p at = absurd (none-some p at)
at_enumerated {X} n (x ∷ xs) zero p at =
    let e : (n, x) ≡ p = same_Some _ p at in
    (sym (ap (λ (q : ℕ × X). q.0) e) ∙ (let z : n ≡ n + 0 = omega arith in z), ap (λ (q : ℕ × X). Some q.1) e)
at_enumerated n (x ∷ xs) (suc k) p at = let o = at_enumerated (n + 1) xs k p at in (omega (arith, o.0), o.1)
