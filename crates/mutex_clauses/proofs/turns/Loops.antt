-- Clauses that are added one element of a list after another, and the room for them.
use Rattle.std.proofs.Common.{◌≡◌, ℕ, zero, suc, ◌+◌, ◌*◌, ◌<◌, ◌≤◌, List, [], ◌∷◌, ◌++◌, ℤ, refl, ap, sym, ◌∙◌, subst, arith, length, get_or, take}
use Rattle.std.specs.List.{enumerate_from, flat_map}
use Rattle.std.proofs.lemmas.List.{length-append}
use Rattle.std.proofs.lemmas.List.Folds.{length-flat_map-take}
use Rattle.std.proofs.lemmas.List.FromFn.{get_or-enumerate_from, length-enumerate_from}
use Rattle.cnf_core.specs.Clauses.{Formula}
use Rattle.cnf_core.specs.declared.cnf.TheConstants.{LIMIT}
use Rattle.bit_blast.specs.Reads.{value_clauses, with_clauses}
use Rattle.bit_blast.proofs.Loops.{next_clauses}
use Rattle.order_events.specs.Parts.{of_each}
use Rattle.order_events.proofs.Loops.{each_more, flat_more}
use Rattle.mutex_states.proofs.Larger.{clauses_larger}

-- after some of the clauses there is room for the next
pub room_next : (base g : Formula) (done here all : List (List ℤ)) → g ≡ with_clauses base done → length done + length here ≤ length all
    → length base.clauses + length all < LIMIT → length g.clauses + length here < LIMIT
room_next base g done here all is part room =
    let long : length g.clauses ≡ length (with_clauses base done).clauses = ap (λ (k : Formula). length k.clauses) is in
    let few : length (with_clauses base done).clauses ≤ length base.clauses + length done = (clauses_larger (length done) base done (omega arith)).2 in
    omega (arith, long, few, part, room)

take_enumerated : {X : Type 0} (n i : ℕ) (xs : List X) → take i (enumerate_from n xs) ≡ enumerate_from n (take i xs)
take_enumerated n zero xs = refl
take_enumerated n (suc i) [] = refl
take_enumerated n (suc i) (x ∷ xs) = ap (λ es. (n, x) ∷ es) (take_enumerated (n + 1) i xs)

module _ {X : Type 0} (xs : List X) (i : ℕ) (x : X) (within : i < length xs) (is : x ≡ get_or xs i x) (base g : Formula) where
  -- the clauses of one more element
  pub next_flat : (f : X → List (List ℤ)) (h : Formula) → g ≡ with_clauses base (flat_map f (take i xs)) → h ≡ with_clauses g (f x)
      → h ≡ with_clauses base (flat_map f (take (i + 1) xs))
  next_flat f h known step =
      let done : List (List ℤ) = flat_map f (take i xs) in
      next_clauses base g h done (flat_map f (take (i + 1) xs)) (f x) known step
      (sym (flat_more xs i x within is [] done (done ++ f x) f refl refl))

  pub room_flat : (f : X → List (List ℤ)) → g ≡ with_clauses base (flat_map f (take i xs))
      → length base.clauses + length (flat_map f xs) < LIMIT
      → length g.clauses + length (f x) < LIMIT
  room_flat f known room =
      room_next base g (flat_map f (take i xs)) (f x) (flat_map f xs) known
      (subst (λ y. length (flat_map f (take i xs)) + length (f y) ≤ length (flat_map f xs)) (sym is)
      (length-flat_map-take f xs i x within)) room

  -- the same with the element's place
  pub next_each : (f : ℕ → X → List (List ℤ)) (h : Formula) → g ≡ with_clauses base (of_each f (take i xs)) → h ≡ with_clauses g (f i x)
      → h ≡ with_clauses base (of_each f (take (i + 1) xs))
  next_each f h known step =
      let done : List (List ℤ) = of_each f (take i xs) in
      next_clauses base g h done (of_each f (take (i + 1) xs)) (f i x) known step
      (sym (each_more xs i x within is [] done (done ++ f i x) f refl refl))

  pub room_each : (f : ℕ → X → List (List ℤ)) → g ≡ with_clauses base (of_each f (take i xs))
      → length base.clauses + length (of_each f xs) < LIMIT
      → length g.clauses + length (f i x) < LIMIT
  room_each f known room =
      let pair : ℕ × X → List (List ℤ) = λ p. f p.0 p.1 in
      let all : List (ℕ × X) = enumerate_from 0 xs in
      let part : length (flat_map pair (take i all)) + length (pair (get_or all i (i, x))) ≤ length (of_each f xs) =
      length-flat_map-take pair all i (i, x) (omega (arith, length-enumerate_from 0 xs, within)) in
      let zero_less : 0 + i ≡ i = omega arith in
      let here : get_or all i (i, x) ≡ (i, x) =
      get_or-enumerate_from 0 xs i (i, x) within ∙ ap (λ k. (k, get_or xs i x)) zero_less ∙ ap (λ y. (i, y)) (sym is) in
      room_next base g (of_each f (take i xs)) (f i x) (of_each f xs) known
      (subst (λ es. length (flat_map pair es) + length (f i x) ≤ length (of_each f xs)) (take_enumerated 0 i xs)
      (subst (λ p. length (flat_map pair (take i all)) + length (pair p) ≤ length (of_each f xs)) here part)) room

-- two words have clauses for each place
pub value_full : (holds taken : ℤ) (n : ℕ) (xs ys : List ℤ) → length xs ≡ n → length ys ≡ n
    → length (value_clauses holds taken xs ys) ≡ n * 2
value_full holds taken zero [] ys p q = refl
value_full holds taken (suc n) [] ys p q = absurd (omega (arith, p))
value_full holds taken zero (x ∷ xs) ys p q = absurd (omega (arith, p))
value_full holds taken (suc n) (x ∷ xs) [] p q = absurd (omega (arith, q))
value_full holds taken (suc n) (x ∷ xs) (y ∷ ys) p q = omega (arith, value_full holds taken n xs ys (omega (arith, p)) (omega (arith, q)))

-- the room after the first of two lists, and after the first and the second of three
pub room_two : (base g : Formula) (first second : List (List ℤ)) → g ≡ with_clauses base first
    → length base.clauses + length (first ++ second) < LIMIT
    → length g.clauses + length second < LIMIT
room_two base g first second is room = room_next base g first second (first ++ second) is (omega (arith, length-append first second)) room

module _ (base g : Formula) (first second third : List (List ℤ)) (is : g ≡ with_clauses base first)
    (room : length base.clauses + length (first ++ (second ++ third)) < LIMIT)
  where
    pub room_middle : length g.clauses + length second < LIMIT
    room_middle =
        room_next base g first second (first ++ (second ++ third)) is
        (omega (arith, length-append first (second ++ third), length-append second third)) room

    pub room_last : (h : Formula) → h ≡ with_clauses g second → length h.clauses + length third < LIMIT
    room_last h step =
        room_next base h (first ++ second) third (first ++ (second ++ third))
        (next_clauses base g h first (first ++ second) second is step refl)
        (omega (arith, length-append first second, length-append first (second ++ third), length-append second third)) room
