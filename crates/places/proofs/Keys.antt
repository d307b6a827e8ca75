-- Which of two keys is less.
use Rattle.std.proofs.Common.{◌≡◌, ◌∙◌, inl, inr, ℕ, zero, suc, ◌+◌, ◌<◌, ◌≤◌, List, [], ◌∷◌, ◌++◌, Bool, true, false, filter, refl, ap, sym, subst, arith}
use Rattle.std.proofs.Common.{Less, Equal}
use Rattle.std.proofs.lemmas.Bool.{cases_Bool, cases_lt}
use Rattle.std.specs.List.{range_with_len, flat_map}
use Rattle.std.specs.Ordering.{nat_cmp}
use Rattle.std.specs.Cmp.{nat_cmp_is}
use Rattle.std.specs.Cmp.Lexicographic.{slice_cmp}

-- the numbers by which places are compared, from the firsts of their loops
abbrev pub keyed : (ℕ → ℕ) → List ℕ → ℕ → List ℕ
keyed number firsts at = flat_map (λ a. a ∷ number a ∷ []) firsts ++ at ∷ []

abbrev IsLess : List ℕ → List ℕ → Type 0
IsLess xs ys = slice_cmp nat_cmp xs ys ≡ Less

first_less : (a b : ℕ) (xs ys : List ℕ) → a < b → IsLess (a ∷ xs) (b ∷ ys)
first_less a b xs ys lt = rw (sym (nat_cmp_is a b Less lt)) refl

same_first : (a b : ℕ) (xs ys : List ℕ) → a ≡ b → IsLess xs ys → IsLess (a ∷ xs) (b ∷ ys)
same_first a b xs ys same lt = rw (sym (nat_cmp_is a b Equal same)) lt

-- the loops from a on, n numbers
abbrev loops : (ℕ → Bool) → (a n : ℕ) → List ℕ
loops P a n = filter P (range_with_len a n)

kept : (P : ℕ → Bool) (N : ℕ → ℕ) (a n k : ℕ) → P a ≡ true → keyed N (loops P a (suc n)) k ≡ a ∷ N a ∷ keyed N (loops P (a + 1) n) k
kept P N a n k e = rw e refl

left : (P : ℕ → Bool) (N : ℕ → ℕ) (a n k : ℕ) → P a ≡ false → keyed N (loops P a (suc n)) k ≡ keyed N (loops P (a + 1) n) k
left P N a n k e = rw e refl

-- a key whose loops begin at a or later is greater than one that begins below a
starts_less : (Q : ℕ → Bool) (M : ℕ → ℕ) (k to : ℕ) (rest : List ℕ) (a m : ℕ) → a + m ≡ to + 1 → k < a → k < to
    → IsLess (k ∷ rest) (keyed M (loops Q a m) to)
starts_less Q M k to rest a zero e low past = first_less k to rest [] past
starts_less Q M k to rest a (suc m) e low past =
    elim (cases_Bool (Q a)) [
      | inl t ↦ subst (IsLess (k ∷ rest)) (sym (kept Q M a m to t)) (first_less k a rest (M a ∷ keyed M (loops Q (a + 1) m) to) low)
      | inr f ↦ subst (IsLess (k ∷ rest)) (sym (left Q M a m to f)) (starts_less Q M k to rest (a + 1) m (omega (arith, e)) (omega (arith, low)) past)
    ]

-- two places with the same loops up to one of them have keys in the order of what comes then
module _ (P Q : ℕ → Bool) (N M : ℕ → ℕ) (k to : ℕ) where
  -- both places have the loop at a, or neither has
  both : (a n m : ℕ) → Q a ≡ P a → (P a ≡ true → M a ≡ N a)
      → IsLess (keyed N (loops P (a + 1) n) k) (keyed M (loops Q (a + 1) m) to)
      → IsLess (keyed N (loops P a (suc n)) k) (keyed M (loops Q a (suc m)) to)
  both a n m same number lt =
      elim (cases_Bool (P a)) [
        | inl t ↦
            subst (λ xs. IsLess xs (keyed M (loops Q a (suc m)) to)) (sym (kept P N a n k t))
            (subst (IsLess (a ∷ N a ∷ keyed N (loops P (a + 1) n) k)) (sym (kept Q M a m to (same ∙ t)))
            (same_first a a (N a ∷ keyed N (loops P (a + 1) n) k) (M a ∷ keyed M (loops Q (a + 1) m) to) refl
            (same_first (N a) (M a) (keyed N (loops P (a + 1) n) k) (keyed M (loops Q (a + 1) m) to) (sym (number t)) lt)))
        | inr f ↦
            subst (λ xs. IsLess xs (keyed M (loops Q a (suc m)) to)) (sym (left P N a n k f))
            (subst (IsLess (keyed N (loops P (a + 1) n) k)) (sym (left Q M a m to (same ∙ f))) lt)
      ]

  -- a place has all loops up to k of a later one, with the same numbers
  pub ahead : k < to → ((a : ℕ) → a ≤ k → P a ≡ true → M a ≡ N a) → ((a : ℕ) → a ≤ k → Q a ≡ true → P a ≡ true)
      → (a n m : ℕ) → a + n ≡ k + 1 → a + m ≡ to + 1 → IsLess (keyed N (loops P a n) k) (keyed M (loops Q a m) to)
  ahead lt number only a zero m e f = starts_less Q M k to [] a m f (omega (arith, e)) lt
  ahead lt number only a (suc n) zero e f = absurd (omega (arith, e, f, lt))
  ahead lt number only a (suc n) (suc m) e f =
      let next = ahead lt number only (a + 1) n m (omega (arith, e)) (omega (arith, f)) in
      let here : a ≤ k = omega (arith, e) in
      elim (cases_Bool (Q a)) [
        | inl t ↦ both a n m (t ∙ sym (only a here t)) (number a here) next
        | inr q ↦ elim (cases_Bool (P a)) [
          | inr p ↦ both a n m (q ∙ sym p) (number a here) next
          | inl p ↦
              subst (λ xs. IsLess xs (keyed M (loops Q a (suc m)) to)) (sym (kept P N a n k p))
              (subst (IsLess (a ∷ N a ∷ keyed N (loops P (a + 1) n) k)) (sym (left Q M a m to q))
              (starts_less Q M a to (N a ∷ keyed N (loops P (a + 1) n) k) (a + 1) m (omega (arith, f)) (omega arith) (omega (arith, here, lt))))
        ]
      ]

  -- a step back to the beginning of a loop, which both places have, with a greater number
  pub again : P to ≡ true → Q to ≡ true → N to < M to → ((a : ℕ) → a < to → (P a ≡ true → M a ≡ N a) × (Q a ≡ P a))
      → (a n m : ℕ) → a ≤ to → to ≤ k → a + n ≡ k + 1 → a + m ≡ to + 1
      → IsLess (keyed N (loops P a n) k) (keyed M (loops Q a m) to)
  again p q lt same a n zero low back e f = absurd (omega (arith, f, low))
  again p q lt same a zero (suc m) low back e f = absurd (omega (arith, e, low, back))
  again p q lt same a (suc n) (suc m) low back e f =
      elim (cases_lt a to) [
        | inl before ↦ both a n m (same a before).1 (same a before).0
            (again p q lt same (a + 1) n m (omega (arith, before)) back (omega (arith, e)) (omega (arith, f)))
        | inr there ↦
            let here : a ≡ to = omega (arith, low, there) in
            subst (λ xs. IsLess xs (keyed M (loops Q a (suc m)) to)) (sym (kept P N a n k (ap P here ∙ p)))
            (subst (IsLess (a ∷ N a ∷ keyed N (loops P (a + 1) n) k)) (sym (kept Q M a m to (ap Q here ∙ q)))
            (same_first a a (N a ∷ keyed N (loops P (a + 1) n) k) (M a ∷ keyed M (loops Q (a + 1) m) to) refl
            (first_less (N a) (M a) (keyed N (loops P (a + 1) n) k) (keyed M (loops Q (a + 1) m) to)
            (omega (arith, lt, ap N here, ap M here)))))
      ]
