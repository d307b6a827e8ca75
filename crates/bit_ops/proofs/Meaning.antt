-- The meaning of the circuits of operators.
use Rattle.std.proofs.Common.{◌≡◌, ℕ, suc, zero, ◌+◌, ◌-◌, ◌*◌, ◌^◌, ◌<◌, ◌≤◌, List, ℤ, pos, negsuc, neg_ℤ, refl, ap, sym, ◌∙◌, subst, arith, Bool, true, false, not, length, take, drop, replicate, FitsSigned}
use Rattle.std.specs.Prelude.{◌%◌, if◌then◌else◌, ◌==◌, ◌||◌, int_lt, int_le}
use Rattle.std.specs.Int.{w32, cast_signed, cast_unsigned, bit_not}
use Rattle.std.specs.List.{All, list_any}
use Rattle.std.specs.Ordering.{int_eq}
use Rattle.std.proofs.Math.Nat.{one-mul, zero-mul}
use Rattle.std.proofs.lemmas.Int.{of_z-to_z, to_z_pos, wrapping_neg_is}
use Rattle.std.proofs.lemmas.Bool.Decides.{same_from_decides, Decides-like, Decides-eqb, Decides-int_eq, nat_tests}
use Rattle.std.proofs.lemmas.List.{length-map, length-take, length-replicate}
use Rattle.std.proofs.lemmas.List.Elements.{All-cons, All-replicate, All-take, All-drop}
use Rattle.int_ops.specs.Arith.{negated, truth, is_distance, shifted_left, shifted_right, quotient, remainder, bits_and, bits_or, bits_xor, bits_inverted, unary, binary}
use Rattle.int_ops.specs.declared.arith.UnOp.{UnOp}
use Rattle.int_ops.specs.declared.arith.UnOp.TheVariants as un
use Rattle.int_ops.specs.declared.arith.BinOp.{BinOp}
use Rattle.int_ops.specs.declared.arith.BinOp.TheVariants as bin
use Rattle.int_ops.proofs.Bits.{int_bit_and-is, int_bit_or-is, int_bit_xor-is, int_bit_not-is}
use Rattle.cnf_core.specs.Clauses.{Formula, Valuation, literal_true}
use Rattle.cnf_core.specs.declared.gates.Gate.{Gate}
use Rattle.cnf_core.specs.declared.gates.Gate.TheVariants.{And, Or, Xor}
use Rattle.cnf_core.proofs.GateLaws.{literal_true-neg}
use Rattle.bit_gates.specs.Folded.{Made, constant, kept, opposite}
use Rattle.bit_gates.specs.Laws.{IsGrown, IsModel, IsOf, IsBit}
use Rattle.bit_gates.proofs.Blocks.{grown_none, grown_more, grown_twice, IsOf-opposite, model_before}
use Rattle.bit_gates.proofs.Meaning.{constant_of, constant_value}
use Rattle.bit_words.specs.Words.{Walked, gated_words, inverted_word}
use Rattle.bit_words.specs.Laws.{values, digit, number_of, value, IsWord}
use Rattle.bit_words.proofs.Meaning.{all_grown, gated_words_mean, any_bit, invert_means}
use Rattle.bit_arith.specs.Sums.{plus_word, minus_word, times_word, zeros}
use Rattle.bit_arith.specs.Laws.{int_value, AreOperands}
use Rattle.bit_arith.proofs.Meaning.{sum_means, difference_means, product_means, plus_32, minus_32, times_32, all_inverted}
use Rattle.bit_arith.proofs.Values.{value_below, value_split, value_zeros, row_value}
use Rattle.bit_shift.specs.Shifts.{top, shifted}
use Rattle.bit_shift.specs.declared.Direction.{Direction}
use Rattle.bit_shift.specs.declared.Direction.TheVariants.{Up, Down}
use Rattle.bit_shift.proofs.Meaning.{shifts-mean, below_32, fits_32, bits_32}
use Rattle.bit_signed.specs.Signed.{quotient_word, remainder_word, compared_signed}
use Rattle.bit_signed.proofs.Meaning.{signed-mean, top_of}
use Rattle.bit_ops.specs.Ops.{some_of, differ, truth_word, kept_where, where_some, where_near, unary_word, binary_word}
use Rattle.bit_ops.specs.Laws.{IsOperand, HasInt, OpsMean}
use Rattle.bit_ops.proofs.Bits.{gate_number, gate_places, some_number, apart_values}

-- a formula that has grown has a word with an int
has_int : (f : Formula) (m : Walked Formula) (meaning : Valuation → ℤ) → IsGrown f m.state → All (IsOf m.state.vars) m.word → length m.word ≡ 32
    → ((w : Valuation) → IsModel w m.state → int_value w m.word ≡ meaning w) → HasInt f m meaning
has_int f m meaning h a e i = record { grown = h; word = record { literals = a; width = e }; int = i }

of_word : (f : Formula) (m : Walked Formula) (xs : List ℤ) (meaning : Valuation → ℤ) → IsWord f m.state xs m.word → length xs ≡ 32
    → ((w : Valuation) → IsModel w m.state → int_value w m.word ≡ meaning w) → HasInt f m meaning
of_word f m xs meaning h e i = has_int f m meaning h.grown h.literals (h.same_length ∙ e) i

operands : (f : Formula) (xs ys : List ℤ) → 0 < f.vars → IsOperand f xs → IsOperand f ys → AreOperands f xs ys
operands f xs ys one p q = record { one = one; first = p.literals; second = q.literals; lengths = q.width ∙ sym p.width }

-- words with the value 1 or 0
truth_int : (p : Bool) → cast_signed w32 (digit p + 2 * 0) ≡ truth p
truth_int true = refl
truth_int false = refl

has_truth : (f : Formula) (m : Made) (meaning : Valuation → Bool) → 0 < f.vars → IsBit f m meaning → HasInt f (truth_word m) (λ w. truth (meaning w))
has_truth f m meaning one h =
    let more : f.vars ≤ m.formula.vars = grown_more f m.formula h.grown in
    let rest : List ℤ = zeros 31 in
    has_int f (truth_word m) (λ w. truth (meaning w)) h.grown
    (All-cons (IsOf m.formula.vars) m.literal rest h.literal
    (All-replicate (IsOf m.formula.vars) 31 (constant false) (constant_of m.formula.vars false (omega (arith, one, more)))))
    (ap suc (length-replicate 31 (constant false)))
    (λ w k. ap (λ i. cast_signed w32 (digit (literal_true w m.literal) + 2 * i)) (value_zeros w 31 (constant_value w false k.one))
    ∙ truth_int (literal_true w m.literal) ∙ ap truth (h.value w k))

opposite_bit : (f : Formula) (m : Made) (meaning : Valuation → Bool) → IsBit f m meaning → IsBit f (opposite m) (λ w. not (meaning w))
opposite_bit f m meaning h = record {
  grown = h.grown;
  literal = IsOf-opposite m.formula.vars m.literal h.literal;
  value = λ w k. literal_true-neg w m.literal h.literal.0 ∙ ap not (h.value w k);
}

pub some_bit : (f : Formula) (xs : List ℤ) → 0 < f.vars → All (IsOf f.vars) xs → IsBit f (some_of f xs) (λ w. not (value w xs == 0))
some_bit f xs one p =
    let h = any_bit (kept f (constant false)) xs (constant_of f.vars false one) p in
    record {
      grown = h.grown;
      literal = h.literal;
      value = λ w m. h.value w m ∙ ap (λ k. k || list_any (literal_true w) xs) (constant_value w false m.one) ∙ some_number w xs;
    }

differ_bit : (f : Formula) (xs ys : List ℤ) → AreOperands f xs ys → IsBit f (differ f xs ys) (λ w. not (value w xs == value w ys))
differ_bit f xs ys o =
    let apart : Walked Formula = gated_words Xor f xs ys in
    let g = gated_words_mean Xor f xs ys o.first o.second o.lengths in
    let more : f.vars ≤ apart.state.vars = grown_more f apart.state g.word.grown in
    let one : 0 < apart.state.vars = omega (arith, o.one, more) in
    let h = any_bit (kept apart.state (constant false)) apart.word (constant_of apart.state.vars false one) g.word.literals in
    let last : Made = differ f xs ys in
    record {
      grown = grown_twice f apart.state last.formula g.word.grown h.grown;
      literal = h.literal;
      value = λ w m. h.value w m ∙ ap (λ k. k || list_any (literal_true w) apart.word) (constant_value w false m.one)
          ∙ apart_values w apart.word (values w xs) (values w ys) (length-map ys (literal_true w) ∙ o.lengths ∙ sym (length-map xs (literal_true w)))
          (g.places w (model_before w apart.state last.formula h.grown m));
    }

-- two 32-bit numbers are equal if their ints are
pub same_int : (n m : ℕ) → n < 2 ^ 32 → m < 2 ^ 32 → (n == m) ≡ int_eq (cast_signed w32 n) (cast_signed w32 m)
same_int n m p q =
    same_from_decides (n == m) (int_eq (cast_signed w32 n) (cast_signed w32 m))
    (Decides-like (n == m) (ap (cast_signed w32)) (λ e. sym (of_z-to_z w32 n p) ∙ ap (cast_unsigned w32) e ∙ of_z-to_z w32 m q) (Decides-eqb n m))
    (Decides-int_eq (cast_signed w32 n) (cast_signed w32 m))

not_not : (p : Bool) → not (not p) ≡ p
not_not true = refl
not_not false = refl

pub bit_with : (f : Formula) (m : Made) (meaning other : Valuation → Bool) → ((w : Valuation) → meaning w ≡ other w) → IsBit f m meaning → IsBit f m other
bit_with f m meaning other e h = record { grown = h.grown; literal = h.literal; value = λ w k. h.value w k ∙ e w }

-- the number of a word where a literal is true, and 0 otherwise
where_int : (p : Bool) (n : ℕ) → cast_signed w32 (digit p * n) ≡ (if p then cast_signed w32 n else pos 0)
where_int true n = ap (cast_signed w32) (one-mul n)
where_int false n = ap (cast_signed w32) (zero-mul n)

has_where : (f : Formula) (before : Walked Formula) (xs : List ℤ) (m : Made) (condition : Valuation → Bool) (meaning : Valuation → ℤ)
    → IsWord f before.state xs before.word → length xs ≡ 32 → IsBit before.state m condition
    → ((w : Valuation) → IsModel w before.state → (if condition w then int_value w before.word else pos 0) ≡ meaning w)
    → HasInt f (kept_where before.word m) meaning
has_where f before xs m condition meaning h e b i =
    let word : List ℤ = before.word in
    let n : ℕ = length word in
    let g : Formula = m.formula in
    let out : Walked Formula = kept_where word m in
    let k = gated_words_mean And g word (replicate n m.literal) (all_grown before.state g word b.grown h.literals)
    (All-replicate (IsOf g.vars) n m.literal b.literal) (length-replicate n m.literal) in
    has_int f out meaning (grown_twice f g out.state (grown_twice f before.state g h.grown b.grown) k.word.grown) k.word.literals
    (k.word.same_length ∙ h.same_length ∙ e)
    (λ w o.
    let og : IsModel w g = model_before w g out.state k.word.grown o in
    ap (cast_signed w32) (ap number_of (k.places w o) ∙ row_value w word m.literal n refl)
    ∙ where_int (literal_true w m.literal) (value w word) ∙ ap (λ p. if p then int_value w word else pos 0) (b.value w og)
    ∙ i w (model_before w before.state g b.grown og))

is_some : (n : ℕ) → (suc n == 0) ≡ false
is_some n = grind (arith, nat_tests)

-- quotients and remainders, by whether the divisor is 0
by_divisor : (op : ℤ → ℤ → ℤ) (a out : ℤ) (n : ℕ) → op a (pos 0) ≡ pos 0 → (0 < n → out ≡ op a (cast_signed w32 n))
    → (if not (n == 0) then out else pos 0) ≡ op a (cast_signed w32 n)
by_divisor op a out zero none some = sym none
by_divisor op a out (suc n) none some = ap (λ p. if not p then out else pos 0) (is_some n) ∙ some (omega arith)

has_divided : (op : ℤ → ℤ → ℤ) (f : Formula) (m : Walked Formula) (xs ys : List ℤ) → 0 < f.vars → IsWord f m.state xs m.word → length xs ≡ 32
    → All (IsOf f.vars) ys → ((a : ℤ) → op a (pos 0) ≡ pos 0)
    → ((w : Valuation) → IsModel w m.state → 0 < value w ys → int_value w m.word ≡ op (int_value w xs) (int_value w ys))
    → HasInt f (where_some m ys) (λ w. op (int_value w xs) (int_value w ys))
has_divided op f m xs ys one h e q none some =
    let more : f.vars ≤ m.state.vars = grown_more f m.state h.grown in
    has_where f m xs (some_of m.state ys) (λ w. not (value w ys == 0)) (λ w. op (int_value w xs) (int_value w ys)) h e
    (some_bit m.state ys (omega (arith, one, more)) (all_grown f m.state ys h.grown q))
    (λ w k. by_divisor op (int_value w xs) (int_value w m.word) (value w ys) (none (int_value w xs)) (some w k))

-- shifts, by whether the distance is below 32
far_away : (z : ℤ) (n : ℕ) → n ≡ cast_unsigned w32 z → 32 ≤ n → is_distance z ≡ false
far_away (pos k) n e h = let far : 32 ≤ k = omega (arith, e, h) in grind (arith, nat_tests, far)
far_away (negsuc k) n e h = refl

by_distance : (op : ℤ → ℤ → ℤ) (a out z : ℤ) (v near far : ℕ) → v ≡ near + 2 ^ 5 * far → near < 32 → v ≡ cast_unsigned w32 z → z ≡ cast_signed w32 v
    → (is_distance z ≡ false → op a z ≡ pos 0) → out ≡ op a (pos near) → (if not (not (far == 0)) then out else pos 0) ≡ op a z
by_distance op a out z v near zero s small e c none h =
    let same : v ≡ near = omega (arith, s) in
    h ∙ ap (op a) (sym (c ∙ ap (cast_signed w32) same ∙ to_z_pos w32 near (omega (arith, small))))
by_distance op a out z v near (suc far) s small e c none h =
    ap (λ p. if not (not p) then out else pos 0) (is_some far) ∙ sym (none (far_away z v e (omega (arith, s))))

has_shifted : (op : ℤ → ℤ → ℤ) (to : Direction) (bit : ℤ) (f : Formula) (xs ys : List ℤ) → AreOperands f xs ys → IsOf f.vars bit → length xs ≡ 32
    → ((a k : ℤ) → is_distance k ≡ false → op a k ≡ pos 0)
    → ((w : Valuation) → IsModel w (shifted to bit 1 f xs (take 5 ys)).state → value w (take 5 ys) ≤ 31
    → int_value w (shifted to bit 1 f xs (take 5 ys)).word ≡ op (int_value w xs) (pos (value w (take 5 ys))))
    → HasInt f (where_near (shifted to bit 1 f xs (take 5 ys)) ys) (λ w. op (int_value w xs) (int_value w ys))
has_shifted op to bit f xs ys o b e none near =
    let m : Walked Formula = shifted to bit 1 f xs (take 5 ys) in
    let ds : List ℤ = take 5 ys in
    let h = shifts-mean.word to bit f xs ds (record { comes_in = b; word = o.first; distance = All-take (IsOf f.vars) 5 ys o.second }) in
    let more : f.vars ≤ m.state.vars = grown_more f m.state h.grown in
    let long : length ys ≡ 32 = o.lengths ∙ e in
    let short : length ds ≡ 5 = length-take 5 ys ∙ omega (arith, long) in
    let far = some_bit m.state (drop 5 ys) (omega (arith, o.one, more)) (All-drop (IsOf m.state.vars) 5 ys (all_grown f m.state ys h.grown o.second)) in
    has_where f m xs (opposite (some_of m.state (drop 5 ys))) (λ w. not (not (value w (drop 5 ys) == 0))) (λ w. op (int_value w xs) (int_value w ys)) h e
    (opposite_bit m.state (some_of m.state (drop 5 ys)) (λ w. not (value w (drop 5 ys) == 0)) far)
    (λ w k.
    let small : value w ds < 32 = subst (λ n. value w ds < 2 ^ n) short (value_below w ds) in
    by_distance op (int_value w xs) (int_value w m.word) (int_value w ys) (value w ys) (value w ds) (value w (drop 5 ys))
    (value_split w 5 ys (omega (arith, long))) small (sym (bits_32 w ys long)) refl (none (int_value w xs) (int_value w ys))
    (near w k (omega (arith, small))))

not_left : (a k : ℤ) → is_distance k ≡ false → shifted_left a k ≡ pos 0
not_left a k h = rw h refl

not_right : (a k : ℤ) → is_distance k ≡ false → shifted_right a k ≡ pos 0
not_right a k h = rw h refl

-- bits
abbrev gate_int : (g : Gate) (a b : ℤ) → ℤ
gate_int And a b = bits_and a b
gate_int Or a b = bits_or a b
gate_int Xor a b = bits_xor a b

gate_is : (g : Gate) (a b : ℤ) → FitsSigned w32 a → FitsSigned w32 b → cast_signed w32 (gate_number g (cast_unsigned w32 a) (cast_unsigned w32 b)) ≡ gate_int g a b
gate_is And a b p q = int_bit_and-is a b p q
gate_is Or a b p q = int_bit_or-is a b p q
gate_is Xor a b p q = int_bit_xor-is a b p q

has_gates : (g : Gate) (f : Formula) (xs ys : List ℤ) → AreOperands f xs ys → length xs ≡ 32
    → HasInt f (gated_words g f xs ys) (λ w. gate_int g (int_value w xs) (int_value w ys))
has_gates g f xs ys o e =
    let m : Walked Formula = gated_words g f xs ys in
    let h = gated_words_mean g f xs ys o.first o.second o.lengths in
    let long : length ys ≡ 32 = o.lengths ∙ e in
    of_word f m xs (λ w. gate_int g (int_value w xs) (int_value w ys)) h.word e
    (λ w k.
    let p : number_of (values w m.word) ≡ gate_number g (value w xs) (value w ys) =
    ap number_of (h.places w k)
    ∙ gate_places g (values w xs) (values w ys) (length-map xs (literal_true w) ∙ e) (length-map ys (literal_true w) ∙ long) (below_32 w xs e)
    (below_32 w ys long) (subst (λ ps. number_of ps < 2 ^ 32) (h.places w k) (below_32 w m.word (h.word.same_length ∙ e))) in
    ap (cast_signed w32) (p ∙ ap (λ n. gate_number g n (value w ys)) (sym (bits_32 w xs e))
    ∙ ap (gate_number g (cast_unsigned w32 (int_value w xs))) (sym (bits_32 w ys long)))
    ∙ gate_is g (int_value w xs) (int_value w ys) (fits_32 w xs e) (fits_32 w ys long))

has_order : (f : Formula) (low : Bool) (xs ys : List ℤ) → AreOperands f xs ys → length xs ≡ 32
    → IsBit f (compared_signed f (constant low) xs ys)
    (λ w. if low then int_le (int_value w xs) (int_value w ys) else int_lt (int_value w xs) (int_value w ys))
has_order f low xs ys o e =
    let h = signed-mean.order f (constant low) xs ys o (constant_of f.vars low o.one) e in
    record {
      grown = h.grown;
      literal = h.literal;
      value = λ w m. h.value w m
          ∙ ap (λ p. if p then int_le (int_value w xs) (int_value w ys) else int_lt (int_value w xs) (int_value w ys)) (constant_value w low m.one);
    }

equal_bit : (f : Formula) (xs ys : List ℤ) → AreOperands f xs ys → length xs ≡ 32
    → IsBit f (differ f xs ys) (λ w. not (int_eq (int_value w xs) (int_value w ys)))
equal_bit f xs ys o e =
    bit_with f (differ f xs ys) (λ w. not (value w xs == value w ys)) (λ w. not (int_eq (int_value w xs) (int_value w ys)))
    (λ w. ap not (same_int (value w xs) (value w ys) (below_32 w xs e) (below_32 w ys (o.lengths ∙ e)))) (differ_bit f xs ys o)

swapped : (f : Formula) (xs ys : List ℤ) → AreOperands f xs ys → AreOperands f ys xs
swapped f xs ys o = record { one = o.one; first = o.second; second = o.first; lengths = sym o.lengths }

no_quotient : (a : ℤ) → quotient a (pos 0) ≡ pos 0
no_quotient a = refl

no_remainder : (a : ℤ) → remainder a (pos 0) ≡ pos 0
no_remainder a = refl

pub binary_means : (op : BinOp) (f : Formula) (xs ys : List ℤ) → 0 < f.vars → IsOperand f xs → IsOperand f ys
    → HasInt f (binary_word op f xs ys) (λ w. binary op (int_value w xs) (int_value w ys))
binary_means bin.Add f xs ys one p q =
    let o = operands f xs ys one p q in of_word f (plus_word f xs ys) xs _ (sum_means f xs ys o).word p.width (plus_32 f xs ys o p.width)
binary_means bin.Sub f xs ys one p q =
    let o = operands f xs ys one p q in of_word f (minus_word f xs ys) xs _ (difference_means f xs ys o).word p.width (minus_32 f xs ys o p.width)
binary_means bin.Mul f xs ys one p q =
    let o = operands f xs ys one p q in of_word f (times_word f xs ys) xs _ (product_means f xs ys o).word p.width (times_32 f xs ys o p.width)
binary_means bin.And f xs ys one p q = has_gates And f xs ys (operands f xs ys one p q) p.width
binary_means bin.Or f xs ys one p q = has_gates Or f xs ys (operands f xs ys one p q) p.width
binary_means bin.Xor f xs ys one p q = has_gates Xor f xs ys (operands f xs ys one p q) p.width
binary_means bin.Eq f xs ys one p q =
    has_truth f (opposite (differ f xs ys)) (λ w. int_eq (int_value w xs) (int_value w ys)) one
    (bit_with f (opposite (differ f xs ys)) (λ w. not (not (int_eq (int_value w xs) (int_value w ys)))) (λ w. int_eq (int_value w xs) (int_value w ys))
    (λ w. not_not (int_eq (int_value w xs) (int_value w ys)))
    (opposite_bit f (differ f xs ys) (λ w. not (int_eq (int_value w xs) (int_value w ys))) (equal_bit f xs ys (operands f xs ys one p q) p.width)))
binary_means bin.Ne f xs ys one p q =
    has_truth f (differ f xs ys) (λ w. not (int_eq (int_value w xs) (int_value w ys))) one
    (equal_bit f xs ys (operands f xs ys one p q) p.width)
binary_means bin.Lt f xs ys one p q =
    has_truth f (compared_signed f (constant false) xs ys) (λ w. int_lt (int_value w xs) (int_value w ys)) one
    (has_order f false xs ys (operands f xs ys one p q) p.width)
binary_means bin.Le f xs ys one p q =
    has_truth f (compared_signed f (constant true) xs ys) (λ w. int_le (int_value w xs) (int_value w ys)) one
    (has_order f true xs ys (operands f xs ys one p q) p.width)
binary_means bin.Gt f xs ys one p q =
    has_truth f (compared_signed f (constant false) ys xs) (λ w. int_lt (int_value w ys) (int_value w xs)) one
    (has_order f false ys xs (operands f ys xs one q p) q.width)
binary_means bin.Ge f xs ys one p q =
    has_truth f (compared_signed f (constant true) ys xs) (λ w. int_le (int_value w ys) (int_value w xs)) one
    (has_order f true ys xs (operands f ys xs one q p) q.width)
binary_means bin.Div f xs ys one p q =
    let o = operands f xs ys one p q in
    has_divided quotient f (quotient_word f xs ys) xs ys one (signed-mean.divided f xs ys o p.width) p.width q.literals no_quotient
    (signed-mean.quotient f xs ys o p.width)
binary_means bin.Rem f xs ys one p q =
    let o = operands f xs ys one p q in
    has_divided remainder f (remainder_word f xs ys) xs ys one (signed-mean.left_over f xs ys o p.width) p.width q.literals no_remainder
    (signed-mean.remainder f xs ys o p.width)
binary_means bin.Shl f xs ys one p q =
    let b = constant_of f.vars false one in
    let near : All (IsOf f.vars) (take 5 ys) = All-take (IsOf f.vars) 5 ys q.literals in
    has_shifted shifted_left Up (constant false) f xs ys (operands f xs ys one p q) b p.width not_left
    (shifts-mean.left f xs (take 5 ys) (record { comes_in = b; word = p.literals; distance = near }) p.width)
binary_means bin.Shr f xs ys one p q =
    let b = top_of f.vars xs p.literals (omega (arith, p.width)) in
    let near : All (IsOf f.vars) (take 5 ys) = All-take (IsOf f.vars) 5 ys q.literals in
    has_shifted shifted_right Down (top xs) f xs ys (operands f xs ys one p q) b p.width not_right
    (shifts-mean.right f xs (take 5 ys) (record { comes_in = b; word = p.literals; distance = near }) p.width)

inverted_int : (w : Valuation) (n : ℕ) (xs : List ℤ) → All (IsOf n) xs → length xs ≡ 32 → int_value w (inverted_word xs) ≡ bits_inverted (int_value w xs)
inverted_int w n xs p e =
    let i : value w (inverted_word xs) + value w xs + 1 ≡ 2 ^ 32 = invert_means w n xs p ∙ ap (λ k. 2 ^ k) e in
    let v : value w (inverted_word xs) ≡ bit_not w32 (cast_unsigned w32 (int_value w xs)) = omega (arith, i, bits_32 w xs e) in
    ap (cast_signed w32) v ∙ int_bit_not-is (int_value w xs) (fits_32 w xs e)

pub unary_means : (op : UnOp) (f : Formula) (xs : List ℤ) → 0 < f.vars → IsOperand f xs → HasInt f (unary_word op f xs) (λ w. unary op (int_value w xs))
unary_means un.Neg f xs one p =
    let none : List ℤ = zeros 32 in
    let long : length none ≡ 32 = length-replicate 32 (constant false) in
    let o : AreOperands f none xs = record {
      one = one;
      first = All-replicate (IsOf f.vars) 32 (constant false) (constant_of f.vars false one);
      second = p.literals;
      lengths = p.width ∙ sym long;
    } in
    of_word f (minus_word f none xs) none (λ w. negated (int_value w xs)) (difference_means f none xs o).word long
    (λ w m.
    let v : value w (minus_word f none xs).word ≡ (2 ^ 32 - cast_unsigned w32 (int_value w xs)) % 2 ^ 32 =
    (difference_means f none xs o).number w m ∙ ap (λ n. (value w none + (2 ^ n - value w xs)) % 2 ^ n) long
    ∙ ap (λ n. (n + (2 ^ 32 - value w xs)) % 2 ^ 32) (value_zeros w 32 (constant_value w false m.one))
    ∙ ap (λ n. n % 2 ^ 32) (omega (arith, bits_32 w xs p.width)) in
    ap (cast_signed w32) v ∙ wrapping_neg_is w32 (int_value w xs) (fits_32 w xs p.width))
unary_means un.Not f xs one p =
    has_truth f (opposite (some_of f xs)) (λ w. int_eq (int_value w xs) (pos 0)) one
    (bit_with f (opposite (some_of f xs)) (λ w. not (not (value w xs == 0))) (λ w. int_eq (int_value w xs) (pos 0))
    (λ w. not_not (value w xs == 0) ∙ same_int (value w xs) 0 (below_32 w xs p.width) (omega arith))
    (opposite_bit f (some_of f xs) (λ w. not (value w xs == 0)) (some_bit f xs one p.literals)))
unary_means un.Inv f xs one p =
    has_int f (unary_word un.Inv f xs) (λ w. bits_inverted (int_value w xs)) (grown_none f) (all_inverted f.vars xs p.literals)
    (length-map xs neg_ℤ ∙ p.width) (λ w m. inverted_int w f.vars xs p.literals p.width)

pub ops-mean : OpsMean
ops-mean = record { unary = unary_means; binary = binary_means }
