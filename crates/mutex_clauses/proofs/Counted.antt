-- Products of numbers, as far as they can be counted.
use Rattle.std.proofs.Common.{◌≡◌, ℕ, zero, suc, ◌-◌, ◌*◌, ◌^◌, ◌<◌, ◌≤◌, ◌⊎◌, inl, inr, ap₂, arith, min}
use Rattle.std.proofs.Math.Nat.{mul-le-mul}
use Rattle.std.proofs.lemmas.Bool.{cases_lt}
use Rattle.mutex_clauses.specs.helpers.Counted.{counted}

abbrev most : ℕ
most = 2 ^ 64 - 1

large : (a b : ℕ) → most ≤ a → 1 ≤ b → most ≤ a * b
large a b more one =
    let times : a * 1 ≤ a * b = mul-le-mul {n₁ = a} {m₁ = 1} {n₂ = a} {m₂ = b} (omega arith) one in omega (arith, times, more)

large_second : (a b : ℕ) → 1 ≤ a → most ≤ b → most ≤ a * b
large_second a b one more =
    let times : 1 * b ≤ a * b = mul-le-mul {n₁ = 1} {m₁ = b} {n₂ = a} {m₂ = b} one (omega arith) in omega (arith, times, more)

both_large : (a b : ℕ) → most ≤ a → most ≤ b → min a (2 ^ 64 - 1) ≡ counted b
both_large a b p q = omega (arith, p, q)

pub products : (x y : ℕ) → min (counted x * counted y) (2 ^ 64 - 1) ≡ counted (x * y)
products zero y = omega arith
products (suc j) zero = omega arith
products (suc j) (suc k) = by (cases_lt most (suc j)) (cases_lt most (suc k))
  where
    by : (most < suc j) ⊎ (suc j ≤ most) → (most < suc k) ⊎ (suc k ≤ most)
        → min (counted (suc j) * counted (suc k)) (2 ^ 64 - 1) ≡ counted (suc j * suc k)
    by (inl more) other =
        both_large (counted (suc j) * counted (suc k)) (suc j * suc k)
        (large (counted (suc j)) (counted (suc k)) (omega (arith, more)) (omega arith))
        (large (suc j) (suc k) (omega (arith, more)) (omega arith))
    by (inr low) (inl more) =
        both_large (counted (suc j) * counted (suc k)) (suc j * suc k)
        (large_second (counted (suc j)) (counted (suc k)) (omega arith) (omega (arith, more)))
        (large_second (suc j) (suc k) (omega arith) (omega (arith, more)))
    by (inr low) (inr few) =
        let first : counted (suc j) ≡ suc j = omega (arith, low) in
        let second : counted (suc k) ≡ suc k = omega (arith, few) in
        ap₂ (λ a b. min (a * b) (2 ^ 64 - 1)) first second
