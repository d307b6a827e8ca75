-- Searches along a range.
use Rattle.std.proofs.Common.{◌≡◌, ℕ, suc, zero, ◌+◌, ◌<◌, ◌≤◌, Bool, true, false, cond, Some, None, inl, inr, refl, ap, sym, ◌∙◌, arith}
use Rattle.std.specs.List.{find, range_with_len}
use Rattle.std.proofs.lemmas.Bool.{cases_eq}
use Rattle.std.proofs.lemmas.Option.{none-some, same_Some}

-- the first number of a range that passes
pub record IsFound (p : ℕ → Bool) (a n k : ℕ) : Type 0 where
  pub low : a ≤ k
  pub high : k < a + n
  pub passes : p k ≡ true

pub found_in : (p : ℕ → Bool) (a n k : ℕ) → find p (range_with_len a n) ≡ Some k → IsFound p a n k
found_in p a zero k is = absurd (none-some k is)
found_in p a (suc n) k is = by (p a) refl is (found_in p (a + 1) n k)
  where
    by : (b : Bool) → p a ≡ b → cond b (Some a) (find p (range_with_len (a + 1) n)) ≡ Some k
        → (find p (range_with_len (a + 1) n) ≡ Some k → IsFound p (a + 1) n k) → IsFound p a (suc n) k
    by true passes same rest =
        let here : a ≡ k = same_Some a k same in
        record { low = omega (arith, here); high = omega (arith, here); passes = ap p (sym here) ∙ passes }
    by false fails later rest =
        let f = rest later in
        record { low = omega (arith, f.low); high = omega (arith, f.high); passes = f.passes }

pub found_at : (p : ℕ → Bool) (a n k : ℕ) → a ≤ k → k < a + n → ((j : ℕ) → a ≤ j → j < k → p j ≡ false) → p k ≡ true
    → find p (range_with_len a n) ≡ Some k
found_at p a zero k low high before here = absurd (omega (arith, low, high))
found_at p a (suc n) k low high before here = elim (cases_eq k a) [
  | inl same ↦ ap (λ b. cond b (Some a) (find p (range_with_len (a + 1) n))) (ap p (sym same) ∙ here) ∙ ap Some (sym same)
  | inr later ↦
      ap (λ b. cond b (Some a) (find p (range_with_len (a + 1) n))) (before a (omega arith) (omega (arith, low, later)))
      ∙ found_at p (a + 1) n k (omega (arith, low, later)) (omega (arith, high)) (λ j above below. before j (omega (arith, above)) below) here
]

pub found_none : (p : ℕ → Bool) (a n : ℕ) → ((j : ℕ) → a ≤ j → j < a + n → p j ≡ false) → find p (range_with_len a n) ≡ None
found_none p a zero none = refl
found_none p a (suc n) none =
    ap (λ b. cond b (Some a) (find p (range_with_len (a + 1) n))) (none a (omega arith) (omega arith))
    ∙ found_none p (a + 1) n (λ j above below. none j (omega (arith, above)) (omega (arith, below)))
