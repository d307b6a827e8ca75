-- The first elements that are kept of a list, with one more.
use Rattle.std.proofs.Common.{◌≡◌, ◌∙◌, ℕ, ◌+◌, ◌<◌, ◌≤◌, Bool, true, false, cond, List, [], ◌∷◌, ◌++◌, Option, Some, None, length, take, get_or, ap, sym, refl, arith}
use Rattle.std.specs.Prelude.{filter, if◌then◌else◌}
use Rattle.std.specs.List.{enumerate_from, filter_map}
use Rattle.std.specs.Option.{option_to_list}
use Rattle.std.proofs.lemmas.List.{length-append, length-take, take-append-le, take_all}
use Rattle.std.proofs.lemmas.List.Elements.{filter-append, filter_map-append}
use Rattle.order_events.proofs.Loops.{enumerated_more}

module _ {A Y : Type 0} (h : ℕ × A → Option Y) (p : ℕ × A → Bool) where
  abbrev pub passed : ℕ × A → Option Y
  passed x = if p x then h x else None

  abbrev pub kept : List A → List Y
  kept xs = filter_map h (filter p (enumerate_from 0 xs))

  of_one : (x : ℕ × A) → filter_map h (filter p (x ∷ [])) ≡ option_to_list (passed x)
  of_one x = by (p x)
    where
      of : (o : Option Y) → filter_map (λ y. y) (o ∷ []) ≡ option_to_list o
      of (Some y) = refl
      of None = refl

      by : (b : Bool) → filter_map h (cond b (x ∷ []) []) ≡ option_to_list (if b then h x else None)
      by true = of (h x)
      by false = refl

  at_most_one : (o : Option Y) → length (option_to_list o) ≤ 1
  at_most_one (Some y) = omega arith
  at_most_one None = omega arith

  module _ (xs : List A) (i : ℕ) (x : A) (within : i < length xs) (is : x ≡ get_or xs i x) where
    one_more : kept (take (i + 1) xs) ≡ kept (take i xs) ++ option_to_list (passed (i, x))
    one_more =
        let places = enumerate_from 0 (take i xs) in
        ap (λ es. filter_map h (filter p es)) (enumerated_more xs i x within is) ∙ ap (filter_map h) (filter-append p places ((i, x) ∷ []))
        ∙ filter_map-append h (filter p places) (filter p ((i, x) ∷ []))
        ∙ ap (λ ys. kept (take i xs) ++ ys) (of_one (i, x))

    -- at most m are kept: the next one if there are fewer, else none
    module _ (m : ℕ) (mid new : List Y) (so : mid ≡ take m (kept (take i xs))) where
      count : length mid ≡ length (take m (kept (take i xs)))
      count = ap length so

      pub goes_on : length mid < m → new ≡ mid ++ option_to_list (passed (i, x)) → new ≡ take m (kept (take (i + 1) xs))
      goes_on few step =
          let before = kept (take i xs) in
          let one = option_to_list (passed (i, x)) in
          let short : length before < m = grind (arith, few, count, length-take m before) in
          let all : new ≡ kept (take (i + 1) xs) =
          step ∙ ap (λ ys. ys ++ one) (so ∙ take_all m before (omega (arith, short))) ∙ sym one_more in
          let bound : length (kept (take (i + 1) xs)) ≤ m =
          omega (arith, ap length one_more, length-append before one, at_most_one (passed (i, x)), short) in
          all ∙ sym (take_all m (kept (take (i + 1) xs)) bound)

      pub is_full : m ≤ length mid → new ≡ mid → new ≡ take m (kept (take (i + 1) xs))
      is_full full same =
          let before = kept (take i xs) in
          let long : m ≤ length before = grind (arith, full, count, length-take m before) in
          same ∙ so ∙ sym (take-append-le m before (option_to_list (passed (i, x))) long) ∙ ap (take m) (sym one_more)
