-- Sums over joined lists.
use Rattle.std.proofs.Common.{◌≡◌, ℕ, ◌+◌, ◌*◌, ◌≤◌, List, [], ◌∷◌, map, length, Bool, true, false, cond, Option, Some, None, refl, ap, sym, ◌∙◌, subst, arith, sum_by}
use Rattle.std.specs.Prelude.{filter}
use Rattle.std.specs.List.{All, cons_option, enumerate_from, filter_map, flat_map}
use Rattle.std.proofs.Math.Nat.{add-mul, mul_assoc, mul-le-mul}
use Rattle.std.proofs.lemmas.List.{length-append, length-map}
use Rattle.std.proofs.lemmas.List.Elements.{All-cons, All-head, All-nil, All-tail, All-weaker}
use Rattle.std.proofs.lemmas.List.Sums.{sum_by-append, sum_by-cons}
use Rattle.clap_system.specs.lawful_order.Events.{placed_in, all_from}
use Rattle.clap_system.specs.order_events.Parts.{of_each}

pub times_le : (a b c d : ℕ) → a ≤ c → b ≤ d → a * b ≤ c * d
times_le a b c d p q = mul-le-mul {n₁ = a} {m₁ = b} {n₂ = c} {m₂ = d} p q

pub regroup : (a b c : ℕ) → a * (b * c) ≡ a * b * c
regroup a b c = sym (mul_assoc a b c)

pub all_equal : {X : Type 0} (m : ℕ) (xs : List X) → sum_by (λ _. m) xs ≡ length xs * m
all_equal m [] = omega arith
all_equal m (x ∷ xs) = omega (arith, all_equal m xs, sum_by-cons (λ _. m) x xs)

module _ {X : Type 0} where
  -- the sum of terms that are at most `m`
  pub each_at_most : (f : X → ℕ) (m : ℕ) (xs : List X) → ((x : X) → f x ≤ m) → sum_by f xs ≤ length xs * m
  each_at_most f m [] few = omega arith
  each_at_most f m (x ∷ xs) few = omega (arith, sum_by-cons f x xs, few x, each_at_most f m xs few)

  -- the sum of terms that are at most `m` times others
  pub each_times : (f g : X → ℕ) (m : ℕ) (xs : List X) → All (λ x. f x ≤ g x * m) xs → sum_by f xs ≤ sum_by g xs * m
  each_times f g m [] few = omega arith
  each_times f g m (x ∷ xs) few =
      let all : sum_by g (x ∷ xs) * m ≡ g x * m + sum_by g xs * m = ap (λ k. k * m) (sum_by-cons g x xs) ∙ add-mul (g x) (sum_by g xs) m in
      omega (
        arith,
        sum_by-cons f x xs,
        all,
        All-head (λ y. f y ≤ g y * m) x xs few,
        each_times f g m xs (All-tail (λ y. f y ≤ g y * m) x xs few),
      )

  module _ {Y : Type 0} (g : Y → ℕ) where
    pub of_map : (f : X → Y) (m : ℕ) (xs : List X) → ((x : X) → g (f x) ≤ m) → sum_by g (map f xs) ≤ length xs * m
    of_map f m [] few = omega arith
    of_map f m (x ∷ xs) few = omega (arith, sum_by-cons g (f x) (map f xs), few x, of_map f m xs few)

    -- the sum over lists that are joined
    pub of_joined : (f : X → List Y) (xs : List X) → sum_by g (flat_map f xs) ≡ sum_by (λ x. sum_by g (f x)) xs
    of_joined f [] = omega arith
    of_joined f (x ∷ xs) =
        omega (arith, sum_by-append g (f x) (flat_map f xs), of_joined f xs, sum_by-cons (λ y. sum_by g (f y)) x xs)

    pub of_flat : (f : X → List Y) (m : ℕ) (xs : List X) → ((x : X) → sum_by g (f x) ≤ m) → sum_by g (flat_map f xs) ≤ length xs * m
    of_flat f m xs few = let h = each_at_most (λ x. sum_by g (f x)) m xs few in omega (arith, of_joined f xs, h)

    pub of_flat_made : {Z : Type 0} (h : Z → X) (f : X → List Y) (m : ℕ) (xs : List Z) → ((z : Z) → sum_by g (f (h z)) ≤ m)
        → sum_by g (flat_map f (map h xs)) ≤ length xs * m
    of_flat_made h f m [] few = omega arith
    of_flat_made h f m (x ∷ xs) few =
        omega (arith, sum_by-append g (f (h x)) (flat_map f (map h xs)), few x, of_flat_made h f m xs few)

    pub of_filter_map : (f : X → Option Y) (m : ℕ) (xs : List X) → ((x : X) (y : Y) → f x ≡ Some y → g y ≤ m) → sum_by g (filter_map f xs) ≤ length xs * m
    of_filter_map f m [] few = omega arith
    of_filter_map f m (x ∷ xs) few = by (f x) refl (of_filter_map f m xs few)
      where
        by : (o : Option Y) → f x ≡ o → sum_by g (filter_map f xs) ≤ length xs * m
            → sum_by g (cons_option o (filter_map f xs)) ≤ length (x ∷ xs) * m
        by None e rest = omega (arith, rest)
        by (Some y) e rest = omega (arith, sum_by-cons g y (filter_map f xs), few x y e, rest)

    -- the sum over the results for each element and its place
    pub of_places : (f : ℕ → X → List Y) (h : X → ℕ) (n : ℕ) (xs : List X) → ((t : ℕ) (x : X) → sum_by g (f t x) ≤ h x)
        → sum_by g (flat_map (λ p. f p.0 p.1) (enumerate_from n xs)) ≤ sum_by h xs
    of_places f h n [] few = omega arith
    of_places f h n (x ∷ xs) few =
        omega (
          arith,
          sum_by-append g (f n x) (flat_map (λ p. f p.0 p.1) (enumerate_from (n + 1) xs)),
          of_places f h (n + 1) xs few,
          few n x,
          sum_by-cons h x xs,
        )

    pub of_all : (f : ℕ → X → List Y) (h : X → ℕ) (xs : List X) → ((t : ℕ) (x : X) → sum_by g (f t x) ≤ h x) → sum_by g (of_each f xs) ≤ sum_by h xs
    of_all f h xs few = of_places f h 0 xs few

  pub filter_few : (p : X → Bool) (xs : List X) → length (filter p xs) ≤ length xs
  filter_few p [] = omega arith
  filter_few p (x ∷ xs) = by (p x) (filter_few p xs)
    where
      by : (b : Bool) → length (filter p xs) ≤ length xs → length (cond b (x ∷ filter p xs) (filter p xs)) ≤ length (x ∷ xs)
      by true rest = omega (arith, rest)
      by false rest = omega (arith, rest)

  pub chosen_few : {Z : Type 0} (f : X → Z) (p : X → Bool) (xs : List X) → length (map f (filter p xs)) ≤ length xs
  chosen_few f p xs = omega (arith, length-map (filter p xs) f, filter_few p xs)

  -- each term is at most the sum
  pub each_within : (f : X → ℕ) (xs : List X) → All (λ x. f x ≤ sum_by f xs) xs
  each_within f [] = All-nil (λ x. f x ≤ sum_by f [])
  each_within f (x ∷ xs) =
      let all = sum_by-cons f x xs in
      All-cons (λ y. f y ≤ sum_by f (x ∷ xs)) x xs (omega (arith, all))
      (All-weaker (λ y. f y ≤ sum_by f xs) (λ y. f y ≤ sum_by f (x ∷ xs)) (λ y few. omega (arith, few, all)) xs (each_within f xs))

  -- the sum of squares is at most the square of the sum
  pub of_squares : (f : X → ℕ) (m : ℕ) (xs : List X) → sum_by (λ x. f x * f x * m) xs ≤ sum_by f xs * sum_by f xs * m
  of_squares f m xs =
      let most : ℕ = sum_by f xs in
      let h = each_times (λ x. f x * f x * m) f (most * m) xs
      (All-weaker (λ x. f x ≤ most) (λ x. f x * f x * m ≤ f x * (most * m)) (λ x few. square (f x) most few) xs (each_within f xs)) in
      subst (λ n. sum_by (λ x. f x * f x * m) xs ≤ n) (regroup most most m) h
    where
      square : (n k : ℕ) → n ≤ k → n * n * m ≤ n * (k * m)
      square n k few = subst (λ z. n * n * m ≤ z) (sym (regroup n k m)) (times_le (n * n) m (n * k) m (times_le n n n k (omega arith) few) (omega arith))

-- the number of elements of all threads
pub length_all : {W X : Type 0} (has : W → List X) (t : ℕ) (ws : List W) → length (all_from has t ws) ≡ sum_by (λ w. length (has w)) ws
length_all has t [] = refl
length_all has t (w ∷ ws) =
    length-append (placed_in t (has w)) (all_from has (t + 1) ws)
    ∙ ap (λ n. n + length (all_from has (t + 1) ws)) (length-map (has w) (λ x. record { thread = t; it = x }))
    ∙ ap (λ n. length (has w) + n) (length_all has (t + 1) ws) ∙ sym (sum_by-cons (λ v. length (has v)) w ws)
