-- How many variables and clauses are added.
use Rattle.std.proofs.Common.{◌≡◌, ℕ, suc, ◌+◌, ◌*◌, ◌≤◌, Bool, true, false, cond, List, [], ◌∷◌, ◌++◌, ℤ, Option, Some, None, inl, inr, refl, ap, ◌∙◌, arith, length}
use Rattle.std.specs.Prelude.{filter, sum_by}
use Rattle.std.specs.List.{Contains, enumerate_from, flat_map}
use Rattle.std.specs.Option.{option_to_list}
use Rattle.std.proofs.Math.Nat.{mul-le-mul}
use Rattle.std.proofs.lemmas.List.{length-append}
use Rattle.std.proofs.lemmas.List.Sums.{sum_by-cons}
use Rattle.cnf_core.specs.Clauses.{Formula}
use Rattle.bit_gates.specs.Folded.{IsLarger}
use Rattle.bit_order.specs.Clauses.{clause_of, folded_clause}
use Rattle.bit_blast.specs.Reads.{value_clauses, with_clauses}
use Rattle.bit_blast.proofs.Lists.{contains_cases, contains_none, contains_later, contains_first}

-- ---- lists

pub times_le : (a b c : ℕ) → a ≤ b → a * c ≤ b * c
times_le a b c h = mul-le-mul {n₁ = a} {m₁ = c} {n₂ = b} {m₂ = c} h (let same : c ≤ c = omega arith in same)

pub option_few : {X : Type 0} (o : Option X) → length (option_to_list o) ≤ 1
option_few None = omega arith
option_few (Some x) = omega arith

pub filter_few : {X : Type 0} (p : X → Bool) (xs : List X) → length (filter p xs) ≤ length xs
filter_few p [] = omega arith
filter_few p (x ∷ xs) = by (p x) (filter_few p xs)
  where
    by : (b : Bool) → length (filter p xs) ≤ length xs → length (cond b (x ∷ filter p xs) (filter p xs)) ≤ suc (length xs)
    by true few = omega (arith, few)
    by false few = omega (arith, few)

-- the elements that pass, with their places
pub filter_enumerated : {X : Type 0} (q : X → Bool) (n : ℕ) (xs : List X)
    → length (filter (λ (p : ℕ × X). q p.1) (enumerate_from n xs)) ≡ length (filter q xs)
filter_enumerated q n [] = refl
filter_enumerated {X} q n (x ∷ xs) = by (q x) (filter_enumerated q (n + 1) xs)
  where
    rest : List (ℕ × X)
    rest = filter (λ (p : ℕ × X). q p.1) (enumerate_from (n + 1) xs)

    by : (b : Bool) → length rest ≡ length (filter q xs) → length (cond b ((n, x) ∷ rest) rest) ≡ length (cond b (x ∷ filter q xs) (filter q xs))
    by true same = omega (arith, same)
    by false same = same

pub length_enumerated : {X : Type 0} (n : ℕ) (xs : List X) → length (enumerate_from n xs) ≡ length xs
length_enumerated n [] = refl
length_enumerated n (x ∷ xs) = omega (arith, length_enumerated (n + 1) xs)

-- joined lists, each of which has at most `m` elements
pub flat_few : {X Y : Type 0} (f : X → List Y) (m : ℕ) (xs : List X) → ((x : X) → Contains xs x → length (f x) ≤ m) → length (flat_map f xs) ≤ length xs * m
flat_few f m [] few = omega arith
flat_few f m (x ∷ xs) few =
    omega (arith, length-append (f x) (flat_map f xs), few x (contains_first x xs), flat_few f m xs (λ y there. few y (contains_later x y xs there)))

-- joined lists, each of which has at most as many elements as a function says
pub flat_sum : {X Y : Type 0} (f : X → List Y) (g : X → ℕ) (xs : List X) → ((x : X) → length (f x) ≤ g x) → length (flat_map f xs) ≤ sum_by g xs
flat_sum f g [] few = omega arith
flat_sum f g (x ∷ xs) few = omega (arith, length-append (f x) (flat_map f xs), few x, flat_sum f g xs few, sum_by-cons g x xs)

-- the same over elements with their places
pub flat_sum_enumerated : {X Y : Type 0} (f : ℕ → X → List Y) (g : X → ℕ) (n : ℕ) (xs : List X) → ((k : ℕ) (x : X) → length (f k x) ≤ g x)
    → length (flat_map (λ (p : ℕ × X). f p.0 p.1) (enumerate_from n xs)) ≤ sum_by g xs
flat_sum_enumerated f g n [] few = omega arith
flat_sum_enumerated {X} f g n (x ∷ xs) few =
    omega (
      arith,
      length-append (f n x) (flat_map (λ (p : ℕ × X). f p.0 p.1) (enumerate_from (n + 1) xs)),
      few n x,
      flat_sum_enumerated f g (n + 1) xs few,
      sum_by-cons g x xs,
    )

-- one of the joined lists is shorter than all together
pub flat_part : {X Y : Type 0} (f : X → List Y) (xs : List X) (x : X) → Contains xs x → length (f x) ≤ length (flat_map f xs)
flat_part f [] x there = absurd (contains_none x there)
flat_part f (y ∷ ys) x there =
    let both : length (f y ++ flat_map f ys) ≡ length (f y) + length (flat_map f ys) = length-append (f y) (flat_map f ys) in
    elim (contains_cases y x ys there) [
      | inl is ↦ (let same : length (f y) ≡ length (f x) = ap (λ z. length (f z)) is in omega (arith, both, same))
      | inr later ↦ omega (arith, both, flat_part f ys x later)
    ]

-- lists that are made of lists, `more` for each element and at most `most` for each two of one list
pub flat_twice : {X Y Z : Type 0} (f : X → List Y) (g : X → Y → List Z) (m : ℕ) (xs : List X)
    → ((x : X) (y : Y) → Contains xs x → length (g x y) ≤ m) → length (flat_map (λ x. flat_map (g x) (f x)) xs) ≤ length (flat_map f xs) * m
flat_twice f g m [] few = omega arith
flat_twice f g m (x ∷ xs) few =
    let inner : List _ = flat_map (g x) (f x) in
    let rest : List _ = flat_map (λ z. flat_map (g z) (f z)) xs in
    let both : length (f x ++ flat_map f xs) * m ≡ length (f x) * m + length (flat_map f xs) * m =
    ap (λ n. n * m) (length-append (f x) (flat_map f xs)) ∙ omega arith in
    omega (
      arith,
      length-append inner rest,
      flat_few (g x) m (f x) (λ y _. few x y (contains_first x xs)),
      flat_twice f g m xs (λ z y there. few z y (contains_later x z xs there)),
      both,
    )

-- ---- formulas

-- some clauses
clauses_few : (lists : List (List ℤ)) → length (flat_map folded_clause lists) ≤ length lists
clauses_few [] = omega arith
clauses_few (ls ∷ lists) = omega (arith, length-append (folded_clause ls) (flat_map folded_clause lists), option_few (clause_of ls), clauses_few lists)

pub clauses_larger : (n : ℕ) (f : Formula) (lists : List (List ℤ)) → length lists ≤ n → IsLarger n f (with_clauses f lists)
clauses_larger n f lists few =
    (omega arith, omega arith, omega (arith, length-append f.clauses (flat_map folded_clause lists), clauses_few lists, few))

-- some variables, and clauses
pub wide_larger : (n m : ℕ) (f : Formula) (lists : List (List ℤ)) → m ≤ n → length lists ≤ n
    → IsLarger n f (with_clauses (record { vars = f.vars + m; clauses = f.clauses }) lists)
wide_larger n m f lists low few =
    (omega arith, omega (arith, low), omega (arith, length-append f.clauses (flat_map folded_clause lists), clauses_few lists, few))

-- the clauses by which a word has the value of another
pub value_few : (holds taken : ℤ) (xs ys : List ℤ) → length (value_clauses holds taken xs ys) ≤ length ys * 2
value_few holds taken [] ys = omega arith
value_few holds taken (a ∷ xs) [] = omega arith
value_few holds taken (a ∷ xs) (b ∷ ys) = omega (arith, value_few holds taken xs ys)

pub value_few_first : (holds taken : ℤ) (xs ys : List ℤ) → length (value_clauses holds taken xs ys) ≤ length xs * 2
value_few_first holds taken [] ys = omega arith
value_few_first holds taken (a ∷ xs) [] = omega arith
value_few_first holds taken (a ∷ xs) (b ∷ ys) = omega (arith, value_few_first holds taken xs ys)
