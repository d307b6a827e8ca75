-- The greatest number up to a bound that passes a test, and tests implied by others.
use Rattle.std.proofs.Common.{◌≡◌, ◌∙◌, inl, inr, ℕ, zero, suc, ◌≤◌, Bool, true, false, not, ◌||◌, cond, refl, sym, ap, arith}
use Rattle.std.proofs.lemmas.Bool.{cases_eq, false≢true}

abbrev pub greatest : (ℕ → Bool) → ℕ → ℕ
greatest p zero = zero
greatest p (suc n) = cond (p (suc n)) (suc n) (greatest p n)

pub greatest_most : (p : ℕ → Bool) (n : ℕ) → greatest p n ≤ n
greatest_most p zero = omega arith
greatest_most p (suc n) = by (p (suc n)) (greatest_most p n)
  where
    by : (b : Bool) → greatest p n ≤ n → cond b (suc n) (greatest p n) ≤ suc n
    by true rest = omega arith
    by false rest = omega (arith, rest)

pub greatest_passes : (p : ℕ → Bool) (n : ℕ) → p 0 ≡ true → p (greatest p n) ≡ true
greatest_passes p zero first = first
greatest_passes p (suc n) first = by (p (suc n)) refl (greatest_passes p n first)
  where
    by : (b : Bool) → p (suc n) ≡ b → p (greatest p n) ≡ true → p (cond b (suc n) (greatest p n)) ≡ true
    by true here rest = here
    by false here rest = rest

pub greatest_least : (p : ℕ → Bool) (n k : ℕ) → k ≤ n → p k ≡ true → k ≤ greatest p n
greatest_least p zero k less passes = less
greatest_least p (suc n) k less passes = by (p (suc n)) refl (greatest_least p n k)
  where
    by : (b : Bool) → p (suc n) ≡ b → (k ≤ n → p k ≡ true → k ≤ greatest p n) → k ≤ cond b (suc n) (greatest p n)
    by true here rest = less
    by false here rest =
        elim (cases_eq k (suc n)) [
          | inl last ↦ absurd (false≢true (sym here ∙ sym (ap p last) ∙ passes))
          | inr other ↦ rest (omega (arith, less, other)) passes
        ]

-- a clause of three opposites and a literal
pub then_true : (p q r s : Bool) → (not p || (not q || (not r || (s || false)))) ≡ true → p ≡ true → q ≡ true → r ≡ true → s ≡ true
then_true true true true true clause a b c = refl
then_true true true true false clause a b c = clause
then_true true true false s clause a b c = absurd (false≢true c)
then_true true false r s clause a b c = absurd (false≢true b)
then_true false q r s clause a b c = absurd (false≢true a)

pub true_then : (p q r s : Bool) → (p ≡ true → q ≡ true → r ≡ true → s ≡ true) → (not p || (not q || (not r || (s || false)))) ≡ true
true_then true true true true h = refl
true_then true true true false h = h refl refl refl
true_then true true false s h = refl
true_then true false r s h = refl
true_then false q r s h = refl
