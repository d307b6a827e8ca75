-- Ints under the mask of a test.
use Rattle.std.proofs.Common.{◌≡◌, ◌∙◌, Bool, true, false, not, cond, ℤ, pos, negsuc, ap, sym, arith}
use Rattle.std.specs.Int.{w32, cast_signed, cast_unsigned, int_wrap}
use Rattle.std.specs.Int.Bits.{and_zero_r, or_zero_l, or_zero_r}
use Rattle.std.proofs.lemmas.Int.{to_z-of_z}
use Rattle.std.proofs.lemmas.Nat.{and_mask}
use Rattle.std.proofs.Math.Nat.{mod-eq_of_lt}
use Rattle.int_ops.specs.Arith.{IsInt, bits_and, bits_or, negated, truth}
use Rattle.int_ops.proofs.Bits.{int_bit_and-is, int_bit_or-is, unsigned-below}

-- the mask of a test leaves an int, or nothing of it
masked : (b : Bool) (x : ℤ) → IsInt x → bits_and x (negated (truth b)) ≡ cond b x (pos 0)
unfolding int_wrap
masked true x i =
    sym (int_bit_and-is x (negsuc 0) i (omega arith))
    ∙ ap (cast_signed w32) (and_mask (cast_unsigned w32 x) 32 ∙ mod-eq_of_lt (unsigned-below x i))
    ∙ to_z-of_z w32 x i
masked false x i = sym (int_bit_and-is x (pos 0) i (omega arith)) ∙ ap (cast_signed w32) (and_zero_r (cast_unsigned w32 x))

-- of an int and nothing, the int
joined : (b : Bool) (x y : ℤ) → IsInt x → IsInt y → bits_or (cond b x (pos 0)) (cond (not b) y (pos 0)) ≡ cond b x y
joined true x y i j = sym (int_bit_or-is x (pos 0) i (omega arith)) ∙ ap (cast_signed w32) (or_zero_r (cast_unsigned w32 x)) ∙ to_z-of_z w32 x i
joined false x y i j = sym (int_bit_or-is (pos 0) y (omega arith) j) ∙ ap (cast_signed w32) (or_zero_l (cast_unsigned w32 y)) ∙ to_z-of_z w32 y j

pub by_test : (b : Bool) (x y : ℤ) → IsInt x → IsInt y
    → bits_or (bits_and x (negated (truth b))) (bits_and y (negated (truth (not b)))) ≡ cond b x y
by_test b x y i j =
    ap (λ v. bits_or v (bits_and y (negated (truth (not b))))) (masked b x i) ∙ ap (bits_or (cond b x (pos 0))) (masked (not b) y j)
    ∙ joined b x y i j
