-- Arithmetic of `int`: 32 bits, two's complement, wrapping.
use Rattle.std.specs.Prelude.{
  ℕ,
  zero,
  suc,
  ◌+◌,
  ◌-◌,
  ◌*◌,
  ◌/◌,
  ◌%◌,
  ◌^◌,
  min,
  max,
  Bool,
  true,
  false,
  not,
  ◌&&◌,
  if◌then◌else◌,
  ℤ,
  pos,
  negsuc,
  ◌+ℤ◌,
  ◌-ℤ◌,
  ◌*ℤ◌,
  neg_ℤ,
  unsigned_abs,
  int_lt,
  int_le,
  FitsSigned,
}
use Rattle.std.specs.Int.{w32, int_wrap, int_div_euclid, is_negative, bit_at, cast_unsigned, cast_signed}
use Rattle.std.specs.Ordering.{int_eq}
use Rattle.int_ops.specs.declared.arith.UnOp.{UnOp}
use Rattle.int_ops.specs.declared.arith.UnOp.TheVariants.{Neg, Not, Inv}
use Rattle.int_ops.specs.declared.arith.BinOp.{BinOp}
use Rattle.int_ops.specs.declared.arith.BinOp.TheVariants.{Add, Sub, Mul, And, Or, Xor, Eq, Ne, Lt, Le, Gt, Ge, Div, Rem, Shl, Shr}

-- a whole number in the range of `int`
abbrev pub IsInt : ℤ → Type 0
IsInt z = FitsSigned w32 z

-- a whole number, wrapped modulo 2 ^ 32 into the range of `int`
abbrev pub wrapped : ℤ → ℤ
wrapped z = int_wrap w32 z

-- the sum, wrapped
abbrev pub plus : ℤ → ℤ → ℤ
plus a b = wrapped (a +ℤ b)

-- the difference, wrapped
abbrev pub minus : ℤ → ℤ → ℤ
minus a b = wrapped (a -ℤ b)

-- the product, wrapped
abbrev pub times : ℤ → ℤ → ℤ
times a b = wrapped (a *ℤ b)

-- the negated number, wrapped
abbrev pub negated : ℤ → ℤ
negated a = wrapped (neg_ℤ a)

-- the whole number of this magnitude, negative if the flag is set
abbrev pub with_sign : Bool → ℕ → ℤ
with_sign false n = pos n
with_sign true n = neg_ℤ (pos n)

-- whether exactly one of two numbers is negative
abbrev pub signs_differ : ℤ → ℤ → Bool
signs_differ (pos _) (negsuc _) = true
signs_differ (negsuc _) (pos _) = true
signs_differ _ _ = false

-- the quotient, rounded toward zero and wrapped; 0 if the divisor is 0
abbrev pub quotient : ℤ → ℤ → ℤ
quotient a b =
    if int_eq b (pos 0) then pos 0
    else wrapped (with_sign (signs_differ a b) (unsigned_abs a / unsigned_abs b))

-- the remainder, with the sign of the dividend; 0 if the divisor is 0
abbrev pub remainder : ℤ → ℤ → ℤ
remainder a b =
    if int_eq b (pos 0) then pos 0 else with_sign (is_negative a) (unsigned_abs a % unsigned_abs b)

-- whether a shift distance is valid: 0 to 31
abbrev pub is_distance : ℤ → Bool
is_distance k = int_le (pos 0) k && int_le k (pos 31)

-- the number times 2 ^ k, wrapped; 0 if k isn't a valid distance
abbrev pub shifted_left : ℤ → ℤ → ℤ
shifted_left a k = if is_distance k then times a (pos (2 ^ unsigned_abs k)) else pos 0

-- the number divided by 2 ^ k, rounded down; 0 if k isn't a valid distance
abbrev pub shifted_right : ℤ → ℤ → ℤ
shifted_right a k = if is_distance k then int_div_euclid a (pos (2 ^ unsigned_abs k)) else pos 0

-- the bit at this place of the number in 32-bit two's complement
abbrev pub bit : ℤ → ℕ → ℕ
bit a place = bit_at (cast_unsigned w32 a) place

-- the natural number made of the first n of these bits; bit k is worth 2 ^ k
unfoldable pub number : (ℕ → ℕ) → ℕ → ℕ
number bits zero = 0
number bits (suc n) = bits n * 2 ^ n + number bits n

-- the `int` with these 32 bits
abbrev pub with_bits : (ℕ → ℕ) → ℤ
with_bits bits = cast_signed w32 (number bits 32)

-- bitwise and: a bit is 1 if both are 1
abbrev pub bits_and : ℤ → ℤ → ℤ
bits_and a b = with_bits (λ place. min (bit a place) (bit b place))

-- bitwise or: a bit is 1 if at least one is 1
abbrev pub bits_or : ℤ → ℤ → ℤ
bits_or a b = with_bits (λ place. max (bit a place) (bit b place))

-- bitwise exclusive or: a bit is 1 if the two differ
abbrev pub bits_xor : ℤ → ℤ → ℤ
bits_xor a b = with_bits (λ place. (bit a place + bit b place) % 2)

-- bitwise complement: each bit is flipped
abbrev pub bits_inverted : ℤ → ℤ
bits_inverted a = with_bits (λ place. 1 - bit a place)

-- the value of a test: 1 if it holds, otherwise 0
abbrev pub truth : Bool → ℤ
truth true = pos 1
truth false = pos 0

-- whether a number is 0
abbrev pub is_zero : ℤ → ℤ
is_zero a = truth (int_eq a (pos 0))

-- whether two numbers are equal
abbrev pub equal : ℤ → ℤ → ℤ
equal a b = truth (int_eq a b)

-- whether two numbers differ
abbrev pub unequal : ℤ → ℤ → ℤ
unequal a b = truth (not (int_eq a b))

-- whether the first is below the second
abbrev pub less : ℤ → ℤ → ℤ
less a b = truth (int_lt a b)

-- whether the first is at most the second
abbrev pub less_or_equal : ℤ → ℤ → ℤ
less_or_equal a b = truth (int_le a b)

-- the result of an operator on one value
abbrev pub unary : UnOp → ℤ → ℤ
unary Neg a = negated a
unary Not a = is_zero a
unary Inv a = bits_inverted a

-- the result of an operator on two values
abbrev pub binary : BinOp → ℤ → ℤ → ℤ
binary Add a b = plus a b
binary Sub a b = minus a b
binary Mul a b = times a b
binary And a b = bits_and a b
binary Or a b = bits_or a b
binary Xor a b = bits_xor a b
binary Eq a b = equal a b
binary Ne a b = unequal a b
binary Lt a b = less a b
binary Le a b = less_or_equal a b
binary Gt a b = less b a
binary Ge a b = less_or_equal b a
binary Div a b = quotient a b
binary Rem a b = remainder a b
binary Shl a b = shifted_left a b
binary Shr a b = shifted_right a b

-- whether two operators are the same
abbrev pub same_unary : UnOp → UnOp → Bool
same_unary Neg Neg = true
same_unary Not Not = true
same_unary Inv Inv = true
same_unary _ _ = false

abbrev pub same_binary : BinOp → BinOp → Bool
same_binary Add Add = true
same_binary Sub Sub = true
same_binary Mul Mul = true
same_binary And And = true
same_binary Or Or = true
same_binary Xor Xor = true
same_binary Eq Eq = true
same_binary Ne Ne = true
same_binary Lt Lt = true
same_binary Le Le = true
same_binary Gt Gt = true
same_binary Ge Ge = true
same_binary Div Div = true
same_binary Rem Rem = true
same_binary Shl Shl = true
same_binary Shr Shr = true
same_binary _ _ = false
