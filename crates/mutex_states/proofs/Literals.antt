-- Lists of literals, and clauses of a few literals.
use Rattle.std.proofs.Common.{◌≡◌, ℕ, zero, suc, ◌+◌, ◌<◌, List, [], ◌∷◌, ℤ, neg_ℤ, refl, ap, sym, ◌∙◌, arith, Bool, true, false, not, length, map}
use Rattle.std.specs.Prelude.{◌||◌, Some, slice_get}
use Rattle.std.specs.List.{All, AllPairs, Contains, range_with_len}
use Rattle.std.proofs.lemmas.Bool.{and_from}
use Rattle.std.proofs.lemmas.List.Elements.{All-append, All-cons, All-contains, All-head, All-map, All-nil, All-tail}
use Rattle.std.proofs.lemmas.List.Folds.{list_all-append, list_all-map}
use Rattle.std.proofs.lemmas.List.FromFn.{get_or-range_with_len, length-range_with_len}
use Rattle.cnf_core.specs.Clauses.{Valuation, clause_true, literal_true, satisfies}
use Rattle.cnf_core.proofs.GateLaws.{literal_true-neg}
use Rattle.bit_gates.specs.Laws.{IsOf}
use Rattle.bit_gates.proofs.Blocks.{IsOf-opposite}
use Rattle.bit_blast.proofs.Lists.{all_of, passes_all}
use Rattle.mutex_states.specs.Ranks.{exclusions}

-- the numbers below another
pub in_range : (n k : ℕ) → Contains (range_with_len 0 n) k → k < n
in_range n k there =
    let i : ℕ = there.0 in
    let below : i < n = let e : length (range_with_len 0 n) ≡ n = length-range_with_len 0 n in omega (arith, e, there.1) in
    let is : k ≡ 0 + i = sym there.2 ∙ get_or-range_with_len 0 n i k below in
    omega (arith, is, below)

-- an element of a list
pub some_at : {X : Type 0} (xs : List X) (k : ℕ) → k < length xs → (x : X) × (slice_get xs k ≡ Some x)
some_at [] k below = absurd (omega (arith, below))
some_at (x ∷ xs) zero below = (x, refl)
some_at (x ∷ xs) (suc k) below = some_at xs k (omega (arith, below))

-- clauses by which a literal follows from others
pub follows : (a b : Bool) → (a ≡ true → b ≡ true) → (not a || (b || false)) ≡ true
follows true b h = ap (λ c. c || false) (h refl)
follows false b h = refl

pub follows_two : (a b c : Bool) → (a ≡ true → b ≡ true → c ≡ true) → (not a || (not b || (c || false))) ≡ true
follows_two true b c h = follows b c (λ s. h refl s)
follows_two false b c h = refl

pub never_both : (a b : Bool) → (a ≡ true → b ≡ true → ⊥) → (not a || (not b || false)) ≡ true
never_both true true h = absurd (h refl refl)
never_both true false h = refl
never_both false b h = refl

module _ (v : Valuation) (n : ℕ) where
  pub opposite : (l : ℤ) → IsOf n l → literal_true v (neg_ℤ l) ≡ not (literal_true v l)
  opposite l of = literal_true-neg v l of.0

  pub implication : (a b : ℤ) → IsOf n a → (literal_true v a ≡ true → literal_true v b ≡ true) → clause_true v (neg_ℤ a ∷ b ∷ []) ≡ true
  implication a b of h = ap (λ c. c || (literal_true v b || false)) (opposite a of) ∙ follows (literal_true v a) (literal_true v b) h

  pub implication_two : (a b c : ℤ) → IsOf n a → IsOf n b → (literal_true v a ≡ true → literal_true v b ≡ true → literal_true v c ≡ true)
      → clause_true v (neg_ℤ a ∷ neg_ℤ b ∷ c ∷ []) ≡ true
  implication_two a b c p q h =
      ap (λ x. x || (literal_true v (neg_ℤ b) || (literal_true v c || false))) (opposite a p)
      ∙ ap (λ x. not (literal_true v a) || (x || (literal_true v c || false))) (opposite b q)
      ∙ follows_two (literal_true v a) (literal_true v b) (literal_true v c) h

  pub exclusion : (a b : ℤ) → IsOf n a → IsOf n b → (literal_true v a ≡ true → literal_true v b ≡ true → ⊥) → clause_true v (neg_ℤ a ∷ neg_ℤ b ∷ []) ≡ true
  exclusion a b p q h =
      ap (λ x. x || (literal_true v (neg_ℤ b) || false)) (opposite a p) ∙ ap (λ x. not (literal_true v a) || (x || false)) (opposite b q)
      ∙ never_both (literal_true v a) (literal_true v b) h

  -- no two of some literals are true
  pub excluded : (ls : List ℤ) → All (IsOf n) ls → AllPairs (λ a b. literal_true v a ≡ true → literal_true v b ≡ true → ⊥) ls → satisfies v (exclusions ls) ≡ true
  excluded [] there h = refl
  excluded (l ∷ ls) there h =
      let rest = All-tail (IsOf n) l ls there in
      list_all-append (clause_true v) (map (λ k. neg_ℤ l ∷ neg_ℤ k ∷ []) ls) (exclusions ls)
      ∙ and_from _ _
      (list_all-map (clause_true v) (λ k. neg_ℤ l ∷ neg_ℤ k ∷ []) ls
      ∙ passes_all (λ k. clause_true v (neg_ℤ l ∷ neg_ℤ k ∷ [])) ls
      (λ k among. exclusion l k (All-head (IsOf n) l ls there) (All-contains (IsOf n) ls k rest among)
      (λ p q. h 0 (suc among.0) k (omega arith) (omega (arith, among.1)) p (ap (literal_true v) among.2 ∙ q))))
      (excluded ls rest (λ i j d less below p q. h (suc i) (suc j) d (omega (arith, less)) (omega (arith, below)) p q))

pub pair_there : (P : ℤ → Type 0) (a b : ℤ) → P a → P b → All P (a ∷ b ∷ [])
pair_there P a b p q = All-cons P a (b ∷ []) p (All-cons P b [] q (All-nil P))

pub three_there : (P : ℤ → Type 0) (a b c : ℤ) → P a → P b → P c → All P (a ∷ b ∷ c ∷ [])
three_there P a b c p q r = All-cons P a (b ∷ c ∷ []) p (pair_there P b c q r)

pub exclusions_there : (n : ℕ) (ls : List ℤ) → All (IsOf n) ls → All (All (IsOf n)) (exclusions ls)
exclusions_there n [] there = All-nil (All (IsOf n))
exclusions_there n (l ∷ ls) there =
    let rest = All-tail (IsOf n) l ls there in
    All-append (All (IsOf n)) (map (λ k. neg_ℤ l ∷ neg_ℤ k ∷ []) ls) (exclusions ls)
    (All-map (All (IsOf n)) (λ k. neg_ℤ l ∷ neg_ℤ k ∷ []) ls
    (all_of (λ k. All (IsOf n) (neg_ℤ l ∷ neg_ℤ k ∷ [])) ls
    (λ k among. pair_there (IsOf n) (neg_ℤ l) (neg_ℤ k) (IsOf-opposite n l (All-head (IsOf n) l ls there))
    (IsOf-opposite n k (All-contains (IsOf n) ls k rest among)))))
    (exclusions_there n ls rest)
