-- Lists made of pieces, one for each number of a range, and searches along a range.
use Rattle.std.proofs.Common.{◌≡◌, ℕ, zero, suc, ◌+◌, ◌<◌, ◌≤◌, Bool, true, false, List, [], ◌∷◌, ◌++◌, Option, Some, None, inl, inr, cond, refl, ap, sym, ◌∙◌, arith, length}
use Rattle.std.specs.Prelude.{◌&&◌}
use Rattle.std.specs.List.{flat_map, range_with_len, list_all, find}
use Rattle.std.specs.Option.{MatchOption}
use Rattle.std.proofs.lemmas.Bool.{and_parts, and_from, cases_eq, cond-true, cond-false}
use Rattle.std.proofs.Math.Nat.{eq-or-lt_of_le}
use Rattle.std.proofs.lemmas.List.{append-nil, append_assoc, length-append}
use Rattle.std.proofs.lemmas.List.Folds.{list_all-append}

-- one more number, at the end
pub pieces_suc : {A : Type 0} (f : ℕ → List A) (a n : ℕ) → flat_map f (range_with_len a (suc n)) ≡ flat_map f (range_with_len a n) ++ f (a + n)
pieces_suc f a zero = let e : a ≡ a + 0 = omega arith in append-nil (f a) ∙ ap f e
pieces_suc f a (suc n) =
    let e : (a + 1) + n ≡ a + suc n = omega arith in
    ap (λ xs. f a ++ xs) (pieces_suc f (a + 1) n) ∙ ap (λ k. f a ++ (flat_map f (range_with_len (a + 1) n) ++ f k)) e
    ∙ sym (append_assoc (f a) (flat_map f (range_with_len (a + 1) n)) (f (a + suc n)))

pub pieces_more : {A : Type 0} (f : ℕ → List A) (a n k : ℕ) → a + n ≡ k → flat_map f (range_with_len a (n + 1)) ≡ flat_map f (range_with_len a n) ++ f k
pieces_more f a n k e =
    let s : n + 1 ≡ suc n = omega arith in ap (λ m. flat_map f (range_with_len a m)) s ∙ pieces_suc f a n ∙ ap (λ m. flat_map f (range_with_len a n) ++ f m) e

-- all pieces together pass if each piece does
pub list_all-flat_map : {A X : Type 0} (p : A → Bool) (f : X → List A) (xs : List X) → list_all p (flat_map f xs) ≡ list_all (λ x. list_all p (f x)) xs
list_all-flat_map p f [] = refl
list_all-flat_map p f (x ∷ xs) = list_all-append p (f x) (flat_map f xs) ∙ ap (λ b. list_all p (f x) && b) (list_all-flat_map p f xs)

pub range_all : (p : ℕ → Bool) (a n : ℕ) → ((k : ℕ) → a ≤ k → k < a + n → p k ≡ true) → list_all p (range_with_len a n) ≡ true
range_all p a zero h = refl
range_all p a (suc n) h =
    and_from (p a) (list_all p (range_with_len (a + 1) n)) (h a (omega arith) (omega arith))
    (range_all p (a + 1) n (λ k low high. h k (omega (arith, low)) (omega (arith, high))))

pub range_at : (p : ℕ → Bool) (a n k : ℕ) → list_all p (range_with_len a n) ≡ true → a ≤ k → k < a + n → p k ≡ true
range_at p a zero k h low high = absurd (omega (arith, low, high))
range_at p a (suc n) k h low high =
    let parts = and_parts (p a) (list_all p (range_with_len (a + 1) n)) h in
    elim (cases_eq k a) [
      | inl here ↦ ap p here ∙ parts.0
      | inr later ↦ range_at p (a + 1) n k parts.1 (omega (arith, low, later)) (omega (arith, high))
    ]

-- the result of a search along a range
pub record IsFound (p : ℕ → Bool) (a n k : ℕ) : Type 0 where
  pub low : a ≤ k
  pub high : k < a + n
  pub passes : p k ≡ true

abbrev pub IsSearched : (ℕ → Bool) → ℕ → ℕ → Type 0
IsSearched p a n = MatchOption (find p (range_with_len a n)) ((k : ℕ) → a ≤ k → k < a + n → p k ≡ false) (IsFound p a n)

pub searched : (p : ℕ → Bool) (a n : ℕ) → IsSearched p a n
searched p a zero = λ k low high. absurd (omega (arith, low, high))
searched p a (suc n) = by (p a) refl (searched p (a + 1) n)
  where
    first_too : p a ≡ false → ((k : ℕ) → a + 1 ≤ k → k < (a + 1) + n → p k ≡ false) → (k : ℕ) → a ≤ k → k < a + suc n → p k ≡ false
    first_too fails none k low high = elim (cases_eq k a) [
      | inl here ↦ ap p here ∙ fails
      | inr later ↦ none k (omega (arith, low, later)) (omega (arith, high))
    ]

    later : (o : Option ℕ) → p a ≡ false → MatchOption o ((k : ℕ) → a + 1 ≤ k → k < (a + 1) + n → p k ≡ false) (IsFound p (a + 1) n)
        → MatchOption o ((k : ℕ) → a ≤ k → k < a + suc n → p k ≡ false) (IsFound p a (suc n))
    later None fails none = first_too fails none
    later (Some k) fails f = record { low = omega (arith, f.low); high = omega (arith, f.high); passes = f.passes }

    by : (b : Bool) → p a ≡ b → IsSearched p (a + 1) n
        → MatchOption (cond b (Some a) (find p (range_with_len (a + 1) n))) ((k : ℕ) → a ≤ k → k < a + suc n → p k ≡ false) (IsFound p a (suc n))
    by true passes rest = record { low = omega arith; high = omega arith; passes = passes }
    by false fails rest = later (find p (range_with_len (a + 1) n)) fails rest

-- two searches with tests that agree along the range have the same result
pub find_same : (p q : ℕ → Bool) (a n : ℕ) → ((k : ℕ) → a ≤ k → k < a + n → p k ≡ q k) → find p (range_with_len a n) ≡ find q (range_with_len a n)
find_same p q a zero same = refl
find_same p q a (suc n) same =
    ap (λ b. cond b (Some a) (find p (range_with_len (a + 1) n))) (same a (omega arith) (omega arith))
    ∙ ap (cond (q a) (Some a)) (find_same p q (a + 1) n (λ k low high. same k (omega (arith, low)) (omega (arith, high))))

-- a search finds the first number that passes
pub found_at : (p : ℕ → Bool) (a n k : ℕ) → a ≤ k → k < a + n → ((j : ℕ) → a ≤ j → j < k → p j ≡ false) → p k ≡ true → find p (range_with_len a n) ≡ Some k
found_at p a zero k low high before passes = absurd (omega (arith, low, high))
found_at p a (suc n) k low high before passes =
    elim (cases_eq k a) [
      | inl here ↦ cond-true (p a) (Some a) (find p (range_with_len (a + 1) n)) (ap p (sym here) ∙ passes) ∙ ap Some (sym here)
      | inr later ↦ cond-false (p a) (Some a) (find p (range_with_len (a + 1) n)) (before a (omega arith) (omega (arith, low, later)))
          ∙ found_at p (a + 1) n k (omega (arith, low, later)) (omega (arith, high)) (λ j above below. before j (omega (arith, above)) below) passes
    ]

pub found_none : (p : ℕ → Bool) (a n : ℕ) → ((j : ℕ) → a ≤ j → j < a + n → p j ≡ false) → find p (range_with_len a n) ≡ None
found_none p a zero none = refl
found_none p a (suc n) none =
    cond-false (p a) (Some a) (find p (range_with_len (a + 1) n)) (none a (omega arith) (omega arith))
    ∙ found_none p (a + 1) n (λ j low high. none j (omega (arith, low)) (omega (arith, high)))

-- a list with one more piece
pub pieces_step : {A : Type 0} (f : ℕ → List A) (a n k : ℕ) (old now next piece : List A) → now ≡ old ++ flat_map f (range_with_len a n) → next ≡ now ++ piece
    → piece ≡ f k → a + n ≡ k → next ≡ old ++ flat_map f (range_with_len a (n + 1))
pieces_step f a n k old now next piece before added is place =
    added ∙ ap (λ xs. xs ++ piece) before ∙ append_assoc old (flat_map f (range_with_len a n)) piece
    ∙ ap (λ xs. old ++ (flat_map f (range_with_len a n) ++ xs)) is ∙ ap (λ xs. old ++ xs) (sym (pieces_more f a n k place))

-- the pieces up to a number and its own piece are at most those up to a greater number
pub pieces_within : {A : Type 0} (f : ℕ → List A) (k n : ℕ) → k < n
    → length (flat_map f (range_with_len 0 k)) + length (f k) ≤ length (flat_map f (range_with_len 0 n))
pieces_within f k zero below = absurd (omega (arith, below))
pieces_within f k (suc n) below =
    let all = ap length (pieces_more f 0 n n (omega arith)) ∙ length-append (flat_map f (range_with_len 0 n)) (f n) in
    let e : suc n ≡ n + 1 = omega arith in
    let last = ap (λ m. length (flat_map f (range_with_len 0 m))) e in
    elim (eq-or-lt_of_le (below_suc k n below)) [
      | inl same ↦ omega (arith, all, last, ap (λ m. length (f m)) same, ap (λ m. length (flat_map f (range_with_len 0 m))) same)
      | inr less ↦ omega (arith, all, last, pieces_within f k n less)
    ]
  where
    below_suc : (k n : ℕ) → k < suc n → k ≤ n
    below_suc k n h = omega (arith, h)
