-- The greatest number of questions of an order: it asks none twice.
use Rattle.std.proofs.Common.{◌≡◌, ℕ, suc, zero, ◌+◌, ◌*◌, ◌/◌, ◌<◌, ◌≤◌, Bool, true, false, cond, List, [], ◌∷◌, ℤ, pos, neg_ℤ, refl, ap, sym, ◌∙◌, subst, arith, length, map, take}
use Rattle.std.specs.Prelude.{◌&&◌, ◌||◌, ◌==◌, filter, if◌then◌else◌}
use Rattle.std.specs.List.{All, AllByRecursion, IsDistinct, list_any, flat_map, range_with_len}
use Rattle.std.proofs.Math.Nat.{mul-le-mul}
use Rattle.std.proofs.lemmas.Nat.{div-mul-add}
use Rattle.std.proofs.lemmas.Bool.Decides.{nat_tests}
use Rattle.std.proofs.lemmas.List.{length-append, length-map}
use Rattle.std.proofs.lemmas.List.Filters.{length-filter_more}
use Rattle.std.proofs.lemmas.List.Elements.{All-filter, All-head, All-tail, All-weaker}
use Rattle.std.proofs.lemmas.Map.Steps.{length-le_from_distinct_below}
use Rattle.order_formula.specs.Orders.{Order, IsOrder, PairIsOf, ChoiceIsOf, same_choice}
use Rattle.order_formula.specs.declared.order.Pair.{Pair}
use Rattle.order_formula.specs.declared.order.Choice.{Choice}
use Rattle.bit_order.specs.Comparators.{size_of}
use Rattle.bit_order.specs.Layouts.{Layout, choice_at, exclusion}
use Rattle.bit_order.specs.helpers.Asked.{asked_size}
use Rattle.bit_order.proofs.Ranges.{pieces_suc}

-- elements that differ in one of two numbers, the one below `m` and the other below `n`, are at most m * n
module _ {K : Type 0} (one other : K → ℕ) (m n : ℕ) where
  abbrev same : K → K → Bool
  same x y = one x == one y && other x == other y

  abbrev IsBelow : K → Type 0
  IsBelow x = (one x < m) × (other x < n)

  abbrev code : K → ℕ
  code x = one x * n + other x

  apart : (a b c d : ℕ) → b < n → d < n → (a == c && b == d) ≡ false → (a * n + b == c * n + d) ≡ false
  apart a b c d p q h = by (a * n + b == c * n + d) refl
    where
      by : (t : Bool) → (a * n + b == c * n + d) ≡ t → t ≡ false
      by false e = refl
      by true e =
          let sums : a * n + b ≡ c * n + d = grind (arith, nat_tests) in
          let first : a ≡ c = sym (div-mul-add a n b p) ∙ ap (λ k. k / n) sums ∙ div-mul-add c n d q in
          let second : b ≡ d = omega (arith, sums, ap (λ k. k * n) first) in
          absurd (grind (arith, nat_tests, first, second, h))

  codes_apart : (x : K) (xs : List K) → other x < n → All IsBelow xs → AllByRecursion (λ y. same x y ≡ false) xs
      → AllByRecursion (λ k. (code x == k) ≡ false) (map code xs)
  codes_apart x [] p below h = tt
  codes_apart x (y ∷ ys) p below h =
      (apart (one x) (other x) (one y) (other y) p (All-head IsBelow y ys below).1 h.0, codes_apart x ys p (All-tail IsBelow y ys below) h.1)

  codes_distinct : (xs : List K) → All IsBelow xs → IsDistinct same xs → IsDistinct (λ j k. j == k) (map code xs)
  unfolding IsDistinct
  codes_distinct [] below h = tt
  codes_distinct (x ∷ xs) below h =
      (codes_apart x xs (All-head IsBelow x xs below).1 (All-tail IsBelow x xs below) h.0, codes_distinct xs (All-tail IsBelow x xs below) h.1)

  code_below : (a b : ℕ) → a < m → b < n → a * n + b < m * n
  code_below a b p q =
      let rows : (a + 1) * n ≤ m * n = mul-le-mul {n₁ = a + 1} {m₁ = n} {n₂ = m} {m₂ = n} (omega (arith, p)) (omega arith) in
      omega (arith, rows, q)

  codes_below : (xs : List K) → All IsBelow xs → (q : ℕ) → list_any (λ k. q == k) (map code xs) ≡ true → q < m * n
  codes_below [] below q h = absurd (cc)
  codes_below (x ∷ xs) below q h = by (q == code x) refl (codes_below xs (All-tail IsBelow x xs below) q)
    where
      by : (t : Bool) → (q == code x) ≡ t → (list_any (λ k. q == k) (map code xs) ≡ true → q < m * n) → q < m * n
      by true e rest =
          let is : q ≡ code x = grind (arith, nat_tests) in
          let b = All-head IsBelow x xs below in
          subst (λ k. k < m * n) (sym is) (code_below (one x) (other x) b.0 b.1)
      by false e rest = rest (sym (ap (λ t. t || list_any (λ k. q == k) (map code xs)) e) ∙ h)

  pub differing_few : (xs : List K) → All IsBelow xs → IsDistinct same xs → length xs ≤ m * n
  differing_few xs below h =
      omega (arith, length-map xs code, length-le_from_distinct_below (map code xs) (m * n) (codes_distinct xs below h) (codes_below xs below))

pub pairs_few : (o : Order) → IsOrder o → length o.pairs ≤ o.events * o.events
pairs_few o is =
    differing_few (λ (p : Pair). p.lesser) (λ (p : Pair). p.greater) o.events o.events o.pairs
    (All-weaker (PairIsOf o.events) (λ p. (p.lesser < o.events) × (p.greater < o.events)) (λ p w. (omega (arith, w.ordered, w.within), w.within)) o.pairs is.pairs_within)
    is.pairs

pub choices_few : (o : Order) → IsOrder o → length o.choices ≤ o.sleeps * o.events
choices_few o is =
    differing_few (λ (c : Choice). c.sleep) (λ (c : Choice). c.by) o.sleeps o.events o.choices
    (All-weaker (ChoiceIsOf o.sleeps o.events) (λ c. (c.sleep < o.sleeps) × (c.by < o.events)) (λ c w. (w.sleep, w.by)) o.choices is.choices_within)
    is.choices

-- an order of at most 256 events has at most 65,536 pairs
pub few_pairs : (o : Order) → IsOrder o → o.events ≤ 256 → length o.pairs ≤ 65_536
few_pairs o is few =
    let most : o.events * o.events ≤ 256 * 256 = mul-le-mul {n₁ = o.events} {m₁ = o.events} {n₂ = 256} {m₂ = 256} few few in
    omega (arith, most, pairs_few o is)

-- a layout's size by its questions is at most its size by events and sleeps
pub asked_few : (y : Layout) → IsOrder y.order → asked_size y ≤ size_of y
asked_few y is =
    let e : ℕ = y.order.events in
    let pairs : length y.order.pairs * (96 + 2 * e) ≤ e * e * (96 + 2 * e) =
    mul-le-mul {n₁ = length y.order.pairs} {m₁ = 96 + 2 * e} {n₂ = e * e} {m₂ = 96 + 2 * e} (pairs_few y.order is) (omega arith) in
    let choices : length y.order.choices * (1 + e) ≤ y.order.sleeps * e * (1 + e) =
    mul-le-mul {n₁ = length y.order.choices} {m₁ = 1 + e} {n₂ = y.order.sleeps * e} {m₂ = 1 + e} (choices_few y.order is) (omega arith) in
    omega (arith, pairs, choices)

-- the earlier choices that a choice excludes: those of its sleep
module _ (start : ℕ) (choices : List Choice) (later : ℕ) where
  abbrev of_sleep : Choice → Bool
  of_sleep c = c.sleep == (choice_at choices later).sleep

  excluded : (earlier : ℕ) → length (exclusion start choices earlier later) ≡ cond (of_sleep (choice_at choices earlier)) 1 0
  excluded earlier = by (of_sleep (choice_at choices earlier))
    where
      by : (b : Bool) → length (if b then (neg_ℤ (pos (start + earlier)) ∷ neg_ℤ (pos (start + later)) ∷ []) ∷ [] else []) ≡ cond b 1 0
      by true = refl
      by false = refl

  pub earlier_count : (k : ℕ) → k ≤ length choices
      → length (flat_map (λ earlier. exclusion start choices earlier later) (range_with_len 0 k)) ≡ length (filter of_sleep (take k choices))
  earlier_count zero within = refl
  earlier_count (suc k) within =
      let f : ℕ → List (List ℤ) = λ earlier. exclusion start choices earlier later in
      let more = ap length (pieces_suc f 0 k) ∙ length-append (flat_map f (range_with_len 0 k)) (f (0 + k)) in
      let here : length (f (0 + k)) ≡ cond (of_sleep (choice_at choices k)) 1 0 = ap (λ j. length (f j)) (omega arith) ∙ excluded k in
      let next = length-filter_more of_sleep choices k (record { sleep = 0; by = 0 }) (omega (arith, within)) in
      let step : suc k ≡ k + 1 = omega arith in
      omega (arith, more, here, next, earlier_count k (omega (arith, within)), ap (λ j. length (filter of_sleep (take j choices))) step)

  take_fewer : (k : ℕ) (xs : List Choice) → length (filter of_sleep (take k xs)) ≤ length (filter of_sleep xs)
  take_fewer zero xs = omega arith
  take_fewer (suc k) [] = omega arith
  take_fewer (suc k) (x ∷ xs) = by (of_sleep x) (take_fewer k xs)
    where
      by : (b : Bool) → length (filter of_sleep (take k xs)) ≤ length (filter of_sleep xs) → length (if b then x ∷ filter of_sleep (take k xs) else filter of_sleep (take k xs))
          ≤ length (if b then x ∷ filter of_sleep xs else filter of_sleep xs)
      by true rest = omega (arith, rest)
      by false rest = rest

  abbrev same_ender : Choice → Choice → Bool
  same_ender x y = 0 == 0 && x.by == y.by

  enders_apart : (x : Choice) (ys : List Choice) → of_sleep x ≡ true → AllByRecursion (λ y. same_choice x y ≡ false) ys
      → AllByRecursion (λ y. same_ender x y ≡ false) (filter of_sleep ys)
  enders_apart x [] is h = tt
  enders_apart x (y ∷ ys) is h = by (of_sleep y) refl (enders_apart x ys is h.1)
    where
      by : (b : Bool) → of_sleep y ≡ b → AllByRecursion (λ y. same_ender x y ≡ false) (filter of_sleep ys)
          → AllByRecursion (λ y. same_ender x y ≡ false) (if b then y ∷ filter of_sleep ys else filter of_sleep ys)
      by true too rest = (grind (arith, nat_tests, is, too, h.0), rest)
      by false too rest = rest

  enders_differ : (xs : List Choice) → IsDistinct same_choice xs → IsDistinct same_ender (filter of_sleep xs)
  unfolding IsDistinct
  enders_differ [] h = tt
  enders_differ (x ∷ xs) h = by (of_sleep x) refl (enders_differ xs h.1)
    where
      by : (b : Bool) → of_sleep x ≡ b → IsDistinct same_ender (filter of_sleep xs) → IsDistinct same_ender (if b then x ∷ filter of_sleep xs else filter of_sleep xs)
      by true is rest = (enders_apart x xs is h.0, rest)
      by false is rest = rest

-- a choice excludes at most as many others as there are events
pub excluded_few : (start : ℕ) (o : Order) (later : ℕ) → IsOrder o → later ≤ length o.choices
    → length (flat_map (λ earlier. exclusion start o.choices earlier later) (range_with_len 0 later)) ≤ o.events
excluded_few start o later is within =
    let p : Choice → Bool = of_sleep start o.choices later in
    let below : All (λ (c : Choice). (0 < 1) × (c.by < o.events)) (filter p o.choices) =
    All-filter p (λ (c : Choice). (0 < 1) × (c.by < o.events)) o.choices
    (All-weaker (ChoiceIsOf o.sleeps o.events) (λ (c : Choice). (0 < 1) × (c.by < o.events)) (λ c w. (omega arith, w.by)) o.choices is.choices_within) in
    let few = differing_few (λ (c : Choice). 0) (λ (c : Choice). c.by) 1 o.events (filter p o.choices) below (enders_differ start o.choices later o.choices is.choices) in
    omega (arith, earlier_count start o.choices later later within, take_fewer start o.choices later later o.choices, few)
