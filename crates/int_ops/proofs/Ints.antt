-- The results of operators on ints.
use Rattle.std.proofs.Common.{◌≡◌, ◌∙◌, ℕ, zero, suc, ◌/◌, ◌%◌, ◌^◌, ◌<◌, ◌≤◌, ℤ, pos, negsuc, neg_ℤ, ◌+ℤ◌, ◌*ℤ◌}
use Rattle.std.proofs.Common.{Bool, true, false, List, [], ◌∷◌, get_or, ap, sym, subst, arith}
use Rattle.std.specs.Prelude.{bit_xor, unsigned_abs, int_lt, int_le, not, ◌-ℤ◌, if◌then◌else◌}
use Rattle.std.specs.Int.{w32, cast_unsigned, cast_signed, int_wrap, int_div_euclid, is_negative, bit_not}
use Rattle.std.specs.Int.Bits.{xor_self, xor_assoc, xor_zero_l, xor_zero_r, and_zero_r, and_lt}
use Rattle.std.specs.Ordering.{int_eq}
use Rattle.std.specs.List.{All}
use Rattle.std.proofs.lemmas.Int.{to_z-of_z, of_z-to_z, SFits-int_wrap}
use Rattle.std.proofs.lemmas.Nat.{xor_lt, or_lt, and_mask}
use Rattle.std.proofs.lemmas.List.Elements.{All-head, All-tail}
use Rattle.std.proofs.Math.Nat.{mod-eq_of_lt, mod-le, div-le_self}
use Rattle.int_ops.specs.Arith.{IsInt, bits_and, bits_or, bits_xor, bits_inverted, negated, truth, wrapped, times, with_sign, signs_differ, is_distance, unary, binary}
use Rattle.int_ops.specs.declared.arith.UnOp.{UnOp}
use Rattle.int_ops.specs.declared.arith.UnOp.TheVariants.{Neg, Not, Inv}
use Rattle.int_ops.specs.declared.arith.BinOp.{BinOp}
use Rattle.int_ops.specs.declared.arith.BinOp.TheVariants.{Add, Sub, Mul, And, Or, Xor, Eq, Ne, Lt, Le, Gt, Ge, Div, Rem, Shl, Shr}
use Rattle.int_ops.proofs.Bits.{int_bit_and-is, int_bit_or-is, int_bit_xor-is, int_bit_not-is, unsigned-below}

-- 32 bits are an int
of_bits : (n : ℕ) → n < 2 ^ 32 → IsInt (cast_signed w32 n)
unfolding int_wrap
of_bits n below = subst IsInt (ap (cast_signed w32) (mod-eq_of_lt below)) (SFits-int_wrap w32 (pos n))

-- the bits in which two ints differ, by `^` of natural numbers
xor_is : (a b : ℤ) → IsInt a → IsInt b → bits_xor a b ≡ cast_signed w32 (bit_xor (cast_unsigned w32 a) (cast_unsigned w32 b))
xor_is a b f g = sym (int_bit_xor-is a b f g)

-- these bits are below 2 ^ 32
xor_below : (a b : ℤ) → IsInt a → IsInt b → bit_xor (cast_unsigned w32 a) (cast_unsigned w32 b) < 2 ^ 32
xor_below a b f g = xor_lt 32 _ _ (unsigned-below a f) (unsigned-below b g)

-- these bits are an int
xor_int : (a b : ℤ) → IsInt a → IsInt b → IsInt (bits_xor a b)
xor_int a b f g = subst IsInt (int_bit_xor-is a b f g) (of_bits (bit_xor (cast_unsigned w32 a) (cast_unsigned w32 b)) (xor_below a b f g))

-- v ^ (v ^ f) is f
twice : (v f : ℤ) → IsInt v → IsInt f → bits_xor v (bits_xor v f) ≡ f
twice v f p q =
    let a = cast_unsigned w32 v in
    let b = cast_unsigned w32 f in
    xor_is v (bits_xor v f) p (xor_int v f p q)
    ∙ ap (λ (x : ℤ). cast_signed w32 (bit_xor a (cast_unsigned w32 x))) (xor_is v f p q)
    ∙ ap (λ n. cast_signed w32 (bit_xor a n)) (of_z-to_z w32 (bit_xor a b) (xor_below v f p q))
    ∙ ap (cast_signed w32) (sym (xor_assoc a a b) ∙ ap (λ n. bit_xor n b) (xor_self a) ∙ xor_zero_l b)
    ∙ to_z-of_z w32 f q

-- v ^ 0 is v
with_none : (v : ℤ) → IsInt v → bits_xor v (pos 0) ≡ v
with_none v p = xor_is v (pos 0) p (omega arith) ∙ ap (cast_signed w32) (xor_zero_r (cast_unsigned w32 v)) ∙ to_z-of_z w32 v p

-- x & -1 is x, and x & 0 is 0
all_bits : (x : ℤ) → IsInt x → bits_and x (negsuc 0) ≡ x
all_bits x i =
    sym (int_bit_and-is x (negsuc 0) i (omega arith))
    ∙ ap (cast_signed w32) (and_mask (cast_unsigned w32 x) 32 ∙ mod-eq_of_lt (unsigned-below x i))
    ∙ to_z-of_z w32 x i

no_bits : (x : ℤ) → IsInt x → bits_and x (pos 0) ≡ pos 0
no_bits x i = sym (int_bit_and-is x (pos 0) i (omega arith)) ∙ ap (cast_signed w32) (and_zero_r (cast_unsigned w32 x))

-- by whether the values are the same
pub by_sameness : (same : Bool) (v f : ℤ) → IsInt v → IsInt f
    → bits_xor v (bits_and (bits_xor v f) (negated (truth same))) ≡ (if same then f else v)
unfolding int_wrap
by_sameness true v f p q = ap (bits_xor v) (all_bits (bits_xor v f) (xor_int v f p q)) ∙ twice v f p q
by_sameness false v f p q = ap (bits_xor v) (no_bits (bits_xor v f) (xor_int v f p q)) ∙ with_none v p

-- 0 and 1 are ints
pub truth_int : (p : Bool) → IsInt (truth p)
truth_int true = omega arith
truth_int false = omega arith

-- a wrapped number is in the range
pub wrapped_int : (z : ℤ) → IsInt (wrapped z)
wrapped_int z = SFits-int_wrap w32 z

-- either of two ints is an int
pub chosen : (b : Bool) (x y : ℤ) → IsInt x → IsInt y → IsInt (if b then x else y)
chosen true x y ix iy = ix
chosen false x y ix iy = iy

-- the results of and, or and not on ints are ints
and_int : (a b : ℤ) → IsInt a → IsInt b → IsInt (bits_and a b)
and_int a b f g = subst IsInt (int_bit_and-is a b f g) (of_bits _ (and_lt 32 _ _ (unsigned-below a f) (unsigned-below b g)))

or_int : (a b : ℤ) → IsInt a → IsInt b → IsInt (bits_or a b)
or_int a b f g = subst IsInt (int_bit_or-is a b f g) (of_bits _ (or_lt 32 _ _ (unsigned-below a f) (unsigned-below b g)))

inverted_int : (a : ℤ) → IsInt a → IsInt (bits_inverted a)
inverted_int a f = subst IsInt (int_bit_not-is a f) (of_bits (bit_not w32 (cast_unsigned w32 a)) (omega arith))

-- a magnitude with a sign
negative_int : (n : ℕ) → n ≤ 2 ^ 31 → IsInt (neg_ℤ (pos n))
negative_int zero few = omega arith
negative_int (suc n) few = omega (arith, few)

signed_int : (b : Bool) (n : ℕ) → n < 2 ^ 31 → IsInt (with_sign b n)
signed_int false n few = omega (arith, few)
signed_int true n few = negative_int n (omega (arith, few))

-- a remainder's magnitude is at most its dividend's
remainder_int : (a : ℤ) (m : ℕ) → IsInt a → IsInt (with_sign (is_negative a) (unsigned_abs a % m))
remainder_int (pos n) m i = signed_int (is_negative (pos n)) (n % m) (omega (arith, i, mod-le n m))
remainder_int (negsuc n) m i = negative_int (suc n % m) (omega (arith, i, mod-le (suc n) m))

-- a quotient rounded down has at most its dividend's magnitude
shifted_int : (a : ℤ) (d : ℕ) → IsInt a → IsInt (int_div_euclid a (pos d))
shifted_int (pos n) d i = omega (arith, i, div-le_self n d)
shifted_int (negsuc n) d i = omega (arith, i, div-le_self n d)

-- each operator over one int, and over two
pub unary_int : (op : UnOp) (a : ℤ) → IsInt a → IsInt (unary op a)
unary_int Neg a i = wrapped_int (neg_ℤ a)
unary_int Not a i = truth_int (int_eq a (pos 0))
unary_int Inv a i = inverted_int a i

pub binary_int : (op : BinOp) (a b : ℤ) → IsInt a → IsInt b → IsInt (binary op a b)
binary_int Add a b i j = wrapped_int (a +ℤ b)
binary_int Sub a b i j = wrapped_int (a -ℤ b)
binary_int Mul a b i j = wrapped_int (a *ℤ b)
binary_int And a b i j = and_int a b i j
binary_int Or a b i j = or_int a b i j
binary_int Xor a b i j = xor_int a b i j
binary_int Eq a b i j = truth_int (int_eq a b)
binary_int Ne a b i j = truth_int (not (int_eq a b))
binary_int Lt a b i j = truth_int (int_lt a b)
binary_int Le a b i j = truth_int (int_le a b)
binary_int Gt a b i j = truth_int (int_lt b a)
binary_int Ge a b i j = truth_int (int_le b a)
binary_int Div a b i j =
    chosen (int_eq b (pos 0)) (pos 0) (wrapped (with_sign (signs_differ a b) (unsigned_abs a / unsigned_abs b))) (truth_int false)
    (wrapped_int (with_sign (signs_differ a b) (unsigned_abs a / unsigned_abs b)))
binary_int Rem a b i j =
    chosen (int_eq b (pos 0)) (pos 0) (with_sign (is_negative a) (unsigned_abs a % unsigned_abs b)) (truth_int false) (remainder_int a (unsigned_abs b) i)
binary_int Shl a b i j =
    chosen (is_distance b) (times a (pos (2 ^ unsigned_abs b))) (pos 0) (wrapped_int (a *ℤ pos (2 ^ unsigned_abs b))) (truth_int false)
binary_int Shr a b i j =
    chosen (is_distance b) (int_div_euclid a (pos (2 ^ unsigned_abs b))) (pos 0) (shifted_int a (2 ^ unsigned_abs b) i) (truth_int false)

-- an element of a list of ints, or 0 if there is none
pub there_int : (xs : List ℤ) (k : ℕ) → All IsInt xs → IsInt (get_or xs k (pos 0))
there_int [] k are = truth_int false
there_int (x ∷ xs) zero are = All-head IsInt x xs are
there_int (x ∷ xs) (suc k) are = there_int xs k (All-tail IsInt x xs are)
