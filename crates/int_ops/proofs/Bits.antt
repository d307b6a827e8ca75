-- A number by its bits, and the bit operators of `int`.
use Rattle.std.proofs.Common.{◌≡◌, ℕ, zero, suc, ◌+◌, ◌-◌, ◌*◌, ◌%◌, ◌^◌, ◌<◌, ◌≤◌, min, max, ℤ, pos, negsuc, ap, sym, ◌∙◌, inl, inr, arith}
use Rattle.std.specs.Prelude.{FitsSigned, bit_and, bit_or, bit_xor}
use Rattle.std.specs.Int.{w32, bit_at, bit_not, cast_unsigned, cast_signed, int_bit_and, int_bit_or, int_bit_xor, int_bit_not}
use Rattle.std.specs.Int.Bits.{and_lt}
use Rattle.std.proofs.lemmas.Nat.{or_lt, xor_lt}
use Rattle.std.proofs.Math.Nat.{pow-suc}
use Rattle.std.proofs.Math.Nat.{eq-or-lt_of_le}
use Rattle.std.proofs.lemmas.Nat.Bits.{
  bit_at_lowest,
  bit_at-lt,
  bit_at_and,
  bit_at_or,
  bit_at_xor,
  bit_at_not,
  same_from_bits_below,
  bit_at_cat_low,
  bit_at_cat_high,
}
use Rattle.int_ops.specs.Arith.{bit, number, bits_and, bits_or, bits_xor, bits_inverted}

one_more : (f p n : ℕ) → f < 2 → n < p → f * p + n < p * 2
one_more zero p n two below = omega arith
one_more (suc zero) p n two below = omega arith
one_more (suc (suc f)) p n two below = omega arith

number-below : (f : ℕ → ℕ) (n : ℕ) → ((i : ℕ) → f i < 2) → number f n < 2 ^ n
unfolding number
number-below f zero two = omega arith
number-below f (suc n) two = rw (pow-suc 2 n) (one_more (f n) (2 ^ n) (number f n) (two n) (number-below f n two))

last_bit : (b k : ℕ) → b < 2 → k ≡ 0 → bit_at b k ≡ b
last_bit b k two none = ap (bit_at b) none ∙ bit_at_lowest b ∙ omega arith

i_below : (i n : ℕ) → i < suc n → i ≤ n
i_below i n less = omega arith

bit_at-number : (f : ℕ → ℕ) (n i : ℕ) → ((i : ℕ) → f i < 2) → i < n → bit_at (number f n) i ≡ f i
unfolding number
bit_at-number f zero i two less = omega arith
bit_at-number f (suc n) i two less = elim (eq-or-lt_of_le (i_below i n less)) [
  | inl same ↦ bit_at_cat_high (f n) n (number f n) i (number-below f n two) (omega arith) ∙ last_bit (f n) (i - n) (two n) (omega arith) ∙ ap f (sym same)
  | inr below ↦ bit_at_cat_low (f n) n (number f n) i below ∙ bit_at-number f n i two below
]

-- a number below 2 ^ 32 that has these bits
number_is : (m : ℕ) (f : ℕ → ℕ) → m < 2 ^ 32 → ((i : ℕ) → f i < 2) → ((i : ℕ) → i < 32 → bit_at m i ≡ f i) → m ≡ number f 32
number_is m f below two same =
    same_from_bits_below 32 m (number f 32) below (number-below f 32 two) (λ i less. same i less ∙ sym (bit_at-number f 32 i two less))

pub unsigned-below : (a : ℤ) → FitsSigned w32 a → cast_unsigned w32 a < 2 ^ 32
unsigned-below (pos n) h = omega (arith, h)
unsigned-below (negsuc n) h = omega (arith, h)

least : (a b : ℕ) → a < 2 → min a b < 2
least a b two = omega arith

greatest : (a b : ℕ) → a < 2 → b < 2 → max a b < 2
greatest a b p q = omega arith

pub int_bit_and-is : (a b : ℤ) → FitsSigned w32 a → FitsSigned w32 b → int_bit_and w32 a b ≡ bits_and a b
int_bit_and-is a b f g =
    ap (cast_signed w32) (number_is (bit_and (cast_unsigned w32 a) (cast_unsigned w32 b)) (λ i. min (bit a i) (bit b i))
    (and_lt 32 _ _ (unsigned-below a f) (unsigned-below b g))
    (λ i. least (bit a i) (bit b i) (bit_at-lt _ i))
    (λ i _. bit_at_and _ _ i))

pub int_bit_or-is : (a b : ℤ) → FitsSigned w32 a → FitsSigned w32 b → int_bit_or w32 a b ≡ bits_or a b
int_bit_or-is a b f g =
    ap (cast_signed w32) (number_is (bit_or (cast_unsigned w32 a) (cast_unsigned w32 b)) (λ i. max (bit a i) (bit b i))
    (or_lt 32 _ _ (unsigned-below a f) (unsigned-below b g))
    (λ i. greatest (bit a i) (bit b i) (bit_at-lt _ i) (bit_at-lt _ i))
    (λ i _. bit_at_or _ _ i))

pub int_bit_xor-is : (a b : ℤ) → FitsSigned w32 a → FitsSigned w32 b → int_bit_xor w32 a b ≡ bits_xor a b
int_bit_xor-is a b f g =
    ap (cast_signed w32) (number_is (bit_xor (cast_unsigned w32 a) (cast_unsigned w32 b)) (λ i. (bit a i + bit b i) % 2)
    (xor_lt 32 _ _ (unsigned-below a f) (unsigned-below b g))
    (λ i. omega arith)
    (λ i _. bit_at_xor _ _ i))

pub int_bit_not-is : (a : ℤ) → FitsSigned w32 a → int_bit_not w32 a ≡ bits_inverted a
int_bit_not-is a f =
    ap (cast_signed w32) (number_is (bit_not w32 (cast_unsigned w32 a)) (λ i. 1 - bit a i)
    (omega arith)
    (λ i. omega arith)
    (λ i less. bit_at_not w32 (cast_unsigned w32 a) i (unsigned-below a f) less))

pub ruleset bits = (int_bit_and-is, int_bit_or-is, int_bit_xor-is, int_bit_not-is)
