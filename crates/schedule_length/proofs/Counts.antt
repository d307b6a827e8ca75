-- The number of elements of a list that pass.
use Rattle.std.proofs.Common.{◌≡◌, inl, inr, ℕ, suc, ◌+◌, ◌*◌, ◌≤◌, Bool, true, false, cond, List, [], ◌∷◌, ◌++◌, length}
use Rattle.std.proofs.Common.{Option, Some, None, refl, ap, arith}
use Rattle.std.specs.Prelude.{is_some, slice_get}
use Rattle.std.specs.List.{count_by, sum_by, filter_map, cons_option}
use Rattle.std.proofs.lemmas.List.Sums.{sum_by-cons, sum_by-append, sum_by-le-sum_by}
use Rattle.path_laws.proofs.run_history.of_pending.In.{In}

-- 1 if a test passes, else 0
abbrev pub tally : Bool → ℕ
tally b = cond b 1 0

-- a test that implies another counts at most as much
pub one_passes : (a b : Bool) → (a ≡ true → b ≡ true) → tally a ≤ tally b
one_passes true b more = let e = ap tally (more refl) in omega (arith, e)
one_passes false b more = omega arith

module _ {X : Type 0} where
  pub count-cons : (p : X → Bool) (x : X) (xs : List X) → count_by p (x ∷ xs) ≡ tally (p x) + count_by p xs
  count-cons p x xs = sum_by-cons (λ y. cond (p y) 1 0) x xs

  pub count-append : (p : X → Bool) (xs ys : List X) → count_by p (xs ++ ys) ≡ count_by p xs + count_by p ys
  count-append p xs ys = sum_by-append (λ y. cond (p y) 1 0) xs ys

  pub count-more : (p q : X → Bool) (xs : List X) → ((x : X) → p x ≡ true → q x ≡ true) → count_by p xs ≤ count_by q xs
  count-more p q xs more = sum_by-le-sum_by (λ x. tally (p x)) (λ x. tally (q x)) xs (λ x. one_passes (p x) (q x) (more x))

  -- an element passes only the second test
  pub count-one_more : (p q : X → Bool) (older : List X) (x : X) (newer : List X) → ((y : X) → p y ≡ true → q y ≡ true) → p x ≡ false → q x ≡ true
      → count_by p (older ++ x ∷ newer) + 1 ≤ count_by q (older ++ x ∷ newer)
  count-one_more p q older x newer more was is =
      let front = count-more p q older more in
      let back = count-more p q newer more in
      let a = count-append p older (x ∷ newer) in
      let b = count-append q older (x ∷ newer) in
      let c = count-cons p x newer in
      let d = count-cons q x newer in
      let e = ap tally was in
      let f = ap tally is in
      omega (arith, front, back, a, b, c, d, e, f)

  -- an element that passes is counted
  pub count-in : (p : X → Bool) (x : X) (xs : List X) → In x xs → p x ≡ true → 1 ≤ count_by p xs
  count-in p x [] i is = absurd i
  count-in p x (y ∷ xs) (inl e) is =
      let a = count-cons p y xs in
      let b = ap tally (ap p e) in
      let c = ap tally is in
      omega (arith, a, b, c)
  count-in p x (y ∷ xs) (inr i) is = let a = count-cons p y xs in let b = count-in p x xs i is in omega (arith, a, b)

  -- the values that a map gives for elements that pass
  pub count-given : {Y : Type 0} (p : X → Bool) (f : X → Option Y) (xs : List X) → ((x : X) → p x ≡ true → is_some (f x) ≡ true)
      → count_by p xs ≤ length (filter_map f xs)
  count-given p f [] gives = omega arith
  count-given {Y} p f (x ∷ xs) gives =
      let all = count-cons p x xs in
      let rest = count-given p f xs gives in
      let first = one_passes (p x) (is_some (f x)) (gives x) in
      let long = one (f x) (filter_map f xs) in
      omega (arith, all, rest, first, long)
    where
      one : (o : Option Y) (ys : List Y) → length (cons_option o ys) ≡ tally (is_some o) + length ys
      one None ys = omega arith
      one (Some y) ys = omega arith

  -- a sum of terms that are at most `m`
  pub sum-few : (f : X → ℕ) (m : ℕ) (xs : List X) → ((k : ℕ) (x : X) → slice_get xs k ≡ Some x → f x ≤ m) → sum_by f xs ≤ length xs * m
  sum-few f m [] few = omega arith
  sum-few f m (x ∷ xs) few =
      let all = sum_by-cons f x xs in
      let first = few 0 x refl in
      let rest = sum-few f m xs (λ k. few (suc k)) in
      omega (arith, all, first, rest)

  -- a sum of terms that are at most those of another sum
  pub sum-less : (f g : X → ℕ) (xs : List X) → ((k : ℕ) (x : X) → slice_get xs k ≡ Some x → f x ≤ g x) → sum_by f xs ≤ sum_by g xs
  sum-less f g [] less = omega arith
  sum-less f g (x ∷ xs) less =
      let a = sum_by-cons f x xs in
      let b = sum_by-cons g x xs in
      let first = less 0 x refl in
      let rest = sum-less f g xs (λ k. less (suc k)) in
      omega (arith, a, b, first, rest)

-- Each element that passes is counted under at least one of the names.

module _ {X Y : Type 0} (of : Y → X → Bool) where
  one_more : (x : X) (xs : List X) (ys : List Y)
      → sum_by (λ y. count_by (of y) (x ∷ xs)) ys ≡ count_by (λ y. of y x) ys + sum_by (λ y. count_by (of y) xs) ys
  one_more x xs [] = omega arith
  one_more x xs (y ∷ ys) =
      let a = sum_by-cons (λ z. count_by (of z) (x ∷ xs)) y ys in
      let b = sum_by-cons (λ z. count_by (of z) xs) y ys in
      let c = count-cons (λ z. of z x) y ys in
      let d = count-cons (of y) x xs in
      let rest = one_more x xs ys in
      omega (arith, a, b, c, d, rest)

  pub count-spread : (p : X → Bool) (xs : List X) (ys : List Y) → ((x : X) → In x xs → p x ≡ true → 1 ≤ count_by (λ y. of y x) ys)
      → count_by p xs ≤ sum_by (λ y. count_by (of y) xs) ys
  count-spread p [] ys named = omega arith
  count-spread p (x ∷ xs) ys named =
      let all = count-cons p x xs in
      let more = one_more x xs ys in
      let rest = count-spread p xs ys (λ y i. named y (inr i)) in
      let first = by (p x) (named x (inl refl)) in
      omega (arith, all, more, rest, first)
    where
      by : (b : Bool) → (b ≡ true → 1 ≤ count_by (λ y. of y x) ys) → tally b ≤ count_by (λ y. of y x) ys
      by true some = some refl
      by false some = omega arith
