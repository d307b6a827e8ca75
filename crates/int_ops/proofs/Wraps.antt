-- Quotients and left shifts, wrapped into the range of `int`.
use Rattle.std.proofs.Common.{
  ◌≡◌,
  ℕ,
  zero,
  suc,
  ◌*◌,
  ◌/◌,
  ◌%◌,
  ◌^◌,
  ◌<◌,
  ◌≤◌,
  ℤ,
  pos,
  negsuc,
  neg_ℤ,
  ◌*ℤ◌,
  FitsSigned,
  to_z,
  of_z,
  refl,
  ap,
  ◌∙◌,
  true,
  pow_mono,
  lit<,
  arith,
}
use Rattle.std.specs.Prelude.{int_div, unsigned_abs}
use Rattle.std.specs.Int.{w32, int_wrap}
pub use Rattle.std.proofs.lemmas.Int.{to_z-of_z}
use Rattle.std.proofs.lemmas.Int.{wrapping_mul-bits, int_wrap-mul_right}
use Rattle.std.proofs.lemmas.Bool.{false≢true}
use Rattle.std.proofs.Math.Nat.{div-le_self, lt_of_le_of_lt}
use Rattle.int_ops.proofs.Bits.{unsigned-below}
use Rattle.int_ops.specs.Arith.{wrapped, with_sign, signs_differ, is_distance, shifted_left}

-- a number whose magnitude is below 2 ^ 32 is wrapped by taking its 32 bits
bits_of : (z : ℤ) → unsigned_abs z < 2 ^ 32 → to_z w32 (of_z w32 z) ≡ wrapped z
unfolding int_wrap
bits_of (pos n) below = ap (to_z w32) (omega arith)
bits_of (negsuc n) below = ap (to_z w32) (omega arith)

quotient_is : (a b : ℤ) → int_div a b ≡ with_sign (signs_differ a b) (unsigned_abs a / unsigned_abs b)
quotient_is (pos a) (pos b) = refl
quotient_is (pos a) (negsuc b) = refl
quotient_is (negsuc a) (pos b) = refl
quotient_is (negsuc a) (negsuc b) = refl

abs_of_negative : (n : ℕ) → unsigned_abs (neg_ℤ (pos n)) ≡ n
abs_of_negative zero = refl
abs_of_negative (suc n) = refl

-- a quotient's magnitude is at most the dividend's
divided : (n d : ℕ) → n < 2 ^ 32 → n / d < 2 ^ 32
divided n d below = lt_of_le_of_lt (div-le_self n d) below

divided_negative : (n d : ℕ) → n < 2 ^ 32 → unsigned_abs (neg_ℤ (pos (n / d))) < 2 ^ 32
divided_negative n d below = rw (abs_of_negative (n / d)) (divided n d below)

magnitude : (a b : ℤ) → FitsSigned w32 a → unsigned_abs (int_div a b) < 2 ^ 32
magnitude (pos a) (pos b) fits = divided a b (omega (arith, fits))
magnitude (pos a) (negsuc b) fits = divided_negative a (suc b) (omega (arith, fits))
magnitude (negsuc a) (pos b) fits = divided_negative (suc a) b (omega (arith, fits))
magnitude (negsuc a) (negsuc b) fits = divided (suc a) (suc b) (omega (arith, fits))

pub quotient_of_bits : (a b : ℤ) → FitsSigned w32 a
    → to_z w32 (of_z w32 (int_div a b)) ≡ wrapped (with_sign (signs_differ a b) (unsigned_abs a / unsigned_abs b))
quotient_of_bits a b fits = bits_of (int_div a b) (magnitude a b fits) ∙ ap wrapped (quotient_is a b)

bits_times : (a : ℤ) (n : ℕ) → FitsSigned w32 a → n < 2 ^ 32 → to_z w32 (of_z w32 a * n % 2 ^ 32) ≡ wrapped (a *ℤ pos n)
bits_times a n fits below =
    wrapping_mul-bits w32 (of_z w32 a) n (unsigned-below a fits) below
    ∙ ap (λ z. int_wrap w32 (z *ℤ to_z w32 n)) (to_z-of_z w32 a fits)
    ∙ ap (λ z. int_wrap w32 (a *ℤ z)) (bits_of (pos n) below)
    ∙ int_wrap-mul_right w32 a (pos n)

power : (k : ℕ) → k ≤ 31 → 2 ^ k < 2 ^ 32
power k within = lt_of_le_of_lt (pow_mono within) (lit< tt)

pub shl_is : (a k : ℤ) → FitsSigned w32 a → is_distance k ≡ true
    → to_z w32 (of_z w32 a * 2 ^ of_z w32 k % 2 ^ 32) ≡ shifted_left a k
shl_is a (pos k) fits within = rw within (bits_times a (2 ^ k) fits (power k (grind (arith, within))))
shl_is a (negsuc k) fits within = absurd (false≢true within)

pub ruleset wraps = (to_z-of_z, quotient_of_bits, shl_is)
