-- The meaning of signed quotients, remainders and comparisons of words.
use Rattle.std.proofs.Common.{◌≡◌, ℕ, suc, zero, ◌+◌, ◌-◌, ◌*◌, ◌/◌, ◌^◌, ◌<◌, ◌≤◌, List, [], ◌∷◌, ◌++◌, ℤ, pos, negsuc, neg_ℤ, refl, ap, sym, ◌∙◌, subst, arith, Bool, true, false, not, length, take, replicate, FitsSigned}
use Rattle.std.specs.Prelude.{◌%◌, if◌then◌else◌, map, unsigned_abs, nat_lt, nat_le, int_lt, int_le}
use Rattle.std.specs.Int.{w32, cast_signed, cast_unsigned, int_wrap, is_negative}
use Rattle.std.specs.List.{All}
use Rattle.std.specs.Ordering.{int_eq}
use Rattle.std.proofs.Math.Nat.{mul-one, mul-zero, mod-eq_of_lt, div-le_self}
use Rattle.std.proofs.lemmas.Nat.{div-mul-add, mod-mul-add, mod_below}
use Rattle.std.proofs.lemmas.Int.{to_z_pos}
use mir.ValLaws.{to_z-neg}
use Rattle.std.proofs.lemmas.Bool.Decides.{nat_tests, Decides-int_eq}
use Rattle.std.proofs.lemmas.List.{length-map, length-take, length-replicate}
use Rattle.std.proofs.lemmas.List.Elements.{All-replicate, All-get_or}
use Rattle.bit_divide.specs.int_ops.Arith.{wrapped, with_sign, signs_differ, quotient, remainder}
use Rattle.cnf_core.specs.Clauses.{var_of, Formula, Valuation, literal_true}
use Rattle.cnf_core.specs.Gates.{gate_value}
use Rattle.cnf_core.specs.declared.gates.Gate.TheVariants.{Xor}
use Rattle.cnf_core.proofs.GateLaws.{literal_true-neg}
use Rattle.bit_gates.specs.Folded.{Made, kept, constant, differing}
use Rattle.bit_gates.specs.Laws.{IsGrown, IsModel, IsOf, IsBit}
use Rattle.bit_gates.proofs.Blocks.{grown_more, grown_twice, IsOf-grown, IsOf-opposite, model_before}
use Rattle.bit_gates.proofs.Meaning.{constant_of, constant_value, differing_bit}
use Rattle.bit_words.specs.Words.{Walked, gated_words, word_sum}
use Rattle.bit_words.specs.Laws.{values, digit, number_of, value, at_places, IsWord}
use Rattle.bit_words.proofs.Meaning.{all_grown, gated_words_mean, words-mean, compared_bit}
use Rattle.bit_divide.specs.bit_arith.Sums.{zeros}
use Rattle.bit_divide.specs.bit_arith.Laws.{int_value, IsNumber, AreOperands}
use Rattle.bit_divide.proofs.bit_arith.Values.{value_below, value_append, value_zeros, remainder_of}
use Rattle.bit_divide.specs.bit_shift.Laws.{number_from}
use Rattle.bit_divide.specs.bit_shift.Shifts.{top}
use Rattle.bit_divide.proofs.bit_shift.Meaning.{top_split, opposite_number, fits_32, bits_32}
use Rattle.bit_divide.specs.Quotients.{Divided, division}
use Rattle.bit_divide.specs.Laws.{IsDivision}
use Rattle.bit_divide.proofs.Meaning.{division-means}
use Rattle.bit_signed.specs.Signed.{negated_where, magnitudes_divided, quotient_word, remainder_word, with_sign_inverted, compared_signed}
use Rattle.bit_signed.specs.Laws.{SignedMean}
use Rattle.bit_signed.proofs.Moves.{biased_length, biased_are}

-- a word's values, each exclusive-or the same value
number_flipped : (c : Bool) (ps : List Bool) → number_of (map (λ p. gate_value Xor p c) ps) ≡ number_from c ps
number_flipped true [] = refl
number_flipped false [] = refl
number_flipped true (true ∷ ps) = ap (λ k. 0 + 2 * k) (number_flipped true ps)
number_flipped true (false ∷ ps) = ap (λ k. 1 + 2 * k) (number_flipped true ps)
number_flipped false (true ∷ ps) = ap (λ k. 1 + 2 * k) (number_flipped false ps)
number_flipped false (false ∷ ps) = ap (λ k. 0 + 2 * k) (number_flipped false ps)

places_flipped : (w : Valuation) (xs : List ℤ) (b : ℤ) (n : ℕ) → length xs ≡ n
    → at_places (gate_value Xor) (values w xs) (values w (replicate n b)) ≡ map (λ p. gate_value Xor p (literal_true w b)) (values w xs)
places_flipped w [] b n e = refl
places_flipped w (x ∷ xs) b zero e = absurd (omega (arith, e))
places_flipped w (x ∷ xs) b (suc n) e = ap (λ k. gate_value Xor (literal_true w x) (literal_true w b) ∷ k) (places_flipped w xs b n (omega (arith, e)))

negated_number : (c : Bool) (p k out v z : ℕ) (ps : List Bool) → number_of ps ≡ v → 2 ^ length ps ≡ p → out < p → v < p → z ≡ 0
    → out + p * k ≡ number_from c ps + z + digit c → out ≡ (if c then (p - v) % p else v)
negated_number false p k out v z ps e l small below none h =
    remainder_of p k out v small (omega (arith, e, none, h)) ∙ mod-eq_of_lt below
negated_number true p k out v z ps e l small below none h =
    remainder_of p k out (p - v) small (omega (arith, e, none, h, l, opposite_number ps))

pub negated_means : (f : Formula) (xs : List ℤ) (sign : ℤ) → All (IsOf f.vars) xs → IsOf f.vars sign
    → IsNumber f xs (negated_where f xs sign) (λ w. if literal_true w sign then (2 ^ length xs - value w xs) % 2 ^ length xs else value w xs)
negated_means f xs sign p s =
    let n : ℕ = length xs in
    let row : Walked Formula = gated_words Xor f xs (replicate n sign) in
    let g = gated_words_mean Xor f xs (replicate n sign) p (All-replicate (IsOf f.vars) n sign s) (length-replicate n sign) in
    let more : f.vars ≤ row.state.vars = grown_more f row.state g.word.grown in
    let enough : 0 < row.state.vars = omega (arith, s.0, s.1, more) in
    let none : List ℤ = zeros n in
    let m : Walked Made = word_sum row.state row.word none sign in
    let h = words-mean.add row.state row.word none sign g.word.literals
    (All-replicate (IsOf row.state.vars) n (constant false) (constant_of row.state.vars false enough)) (IsOf-grown f row.state sign g.word.grown s)
    (length-replicate n (constant false) ∙ sym g.word.same_length) in
    record {
      word = record {
        grown = grown_twice f row.state m.state.formula g.word.grown h.word.grown;
        literals = h.word.literals;
        same_length = h.word.same_length ∙ g.word.same_length;
      };
      number = λ w k.
          let v : value w row.word ≡ number_from (literal_true w sign) (values w xs) =
          ap number_of (g.places w (model_before w row.state m.state.formula h.word.grown k) ∙ places_flipped w xs sign n refl)
          ∙ number_flipped (literal_true w sign) (values w xs) in
          negated_number (literal_true w sign) (2 ^ n) (digit (literal_true w m.state.literal)) (value w m.word) (value w xs) (value w none) (values w xs) refl
          (ap (λ i. 2 ^ i) (length-map xs (literal_true w)))
          (subst (λ i. value w m.word < 2 ^ i) (h.word.same_length ∙ g.word.same_length) (value_below w m.word)) (value_below w xs)
          (value_zeros w n (constant_value w false k.one))
          (ap (λ i. value w m.word + 2 ^ i * digit (literal_true w m.state.literal)) (sym g.word.same_length) ∙ h.sum w k
          ∙ ap (λ i. i + value w none + digit (literal_true w sign)) v);
    }

-- an int, its 32 bits, and the highest of them
record IsSplit (z : ℤ) (v low : ℕ) (t : Bool) : Type 0 where
  fits : FitsSigned w32 z
  bits : v ≡ cast_unsigned w32 z
  split : v ≡ low + 2 ^ 31 * digit t
  below : low < 2 ^ 31

split_of : (w : Valuation) (xs : List ℤ) → length xs ≡ 32 → IsSplit (int_value w xs) (value w xs) (value w (take 31 xs)) (literal_true w (top xs))
split_of w xs e =
    let short : length (take 31 xs) ≡ 31 = length-take 31 xs ∙ omega (arith, e) in
    record {
      fits = fits_32 w xs e;
      bits = sym (bits_32 w xs e);
      split = top_split w xs 31 e;
      below = subst (λ k. value w (take 31 xs) < 2 ^ k) short (value_below w (take 31 xs));
    }

magnitude : (z : ℤ) (v low : ℕ) (t : Bool) → IsSplit z v low t → (if t then (2 ^ 32 - v) % 2 ^ 32 else v) ≡ unsigned_abs z
magnitude (pos n) v low true s = absurd (omega (arith, s.fits, s.bits, s.split, s.below))
magnitude (pos n) v low false s = s.bits
magnitude (negsuc n) v low false s = absurd (omega (arith, s.fits, s.bits, s.split, s.below))
magnitude (negsuc n) v low true s = omega (arith, s.fits, s.bits)

-- whether an int is negative, by its form
abbrev is_below : ℤ → Bool
is_below (pos n) = false
is_below (negsuc n) = true

below_is : (z : ℤ) → is_below z ≡ is_negative z
below_is (pos n) = grind (arith, nat_tests)
below_is (negsuc n) = refl

is_sign : (z : ℤ) (v low : ℕ) (t : Bool) → IsSplit z v low t → t ≡ is_below z
is_sign (pos n) v low true s = absurd (omega (arith, s.fits, s.bits, s.split, s.below))
is_sign (pos n) v low false s = refl
is_sign (negsuc n) v low false s = absurd (omega (arith, s.fits, s.bits, s.split, s.below))
is_sign (negsuc n) v low true s = refl

magnitude_small : (z : ℤ) → FitsSigned w32 z → unsigned_abs z ≤ 2 ^ 31
magnitude_small (pos n) h = omega (arith, h)
magnitude_small (negsuc n) h = omega (arith, h)

some_magnitude : (z : ℤ) (v : ℕ) → FitsSigned w32 z → v ≡ cast_unsigned w32 z → 0 < v → 0 < unsigned_abs z
some_magnitude (pos n) v f e h = omega (arith, e, h)
some_magnitude (negsuc n) v f e h = omega arith

signs : (a b : ℤ) → gate_value Xor (is_below a) (is_below b) ≡ signs_differ a b
signs (pos n) (pos k) = refl
signs (pos n) (negsuc k) = refl
signs (negsuc n) (pos k) = refl
signs (negsuc n) (negsuc k) = refl

not_zero : (z : ℤ) → 0 < unsigned_abs z → int_eq z (pos 0) ≡ false
not_zero z h = here (int_eq z (pos 0)) refl
  where
    here : (p : Bool) → int_eq z (pos 0) ≡ p → p ≡ false
    here true e = absurd (omega (arith, h, ap unsigned_abs ((Decides-int_eq z (pos 0)).0 e)))
    here false e = refl

-- a magnitude with a sign, as 32 bits
signed_bits : (s : Bool) (q : ℕ) → q < 2 ^ 32 → cast_signed w32 (if s then (2 ^ 32 - q) % 2 ^ 32 else q) ≡ wrapped (with_sign s q)
unfolding int_wrap
signed_bits false q h = ap (cast_signed w32) (omega (arith, h))
signed_bits true zero h = refl
signed_bits true (suc q) h = ap (cast_signed w32) (omega (arith, h))

signed_small : (s : Bool) (r : ℕ) → r < 2 ^ 31 → cast_signed w32 (if s then (2 ^ 32 - r) % 2 ^ 32 else r) ≡ with_sign s r
signed_small false r h = to_z_pos w32 r h
signed_small true zero h = refl
signed_small true (suc r) h =
    let e : (2 ^ 32 - suc r) % 2 ^ 32 ≡ 2 ^ 32 - suc r = omega (arith, h) in
    ap (cast_signed w32) e ∙ to_z-neg w32 r (omega (arith, h))

-- the magnitudes' quotient and remainder
record AreMagnitudes (f : Formula) (xs ys : List ℤ) (m : Divided) : Type 0 where
  grown : IsGrown f m.formula
  quotient_of : All (IsOf m.formula.vars) m.quotient
  quotient_length : length m.quotient ≡ 32
  remainder_of_it : All (IsOf m.formula.vars) m.remainder
  remainder_length : length m.remainder ≡ 32
  numbers : (w : Valuation) → IsModel w m.formula → 0 < value w ys
      → (value w m.quotient ≡ unsigned_abs (int_value w xs) / unsigned_abs (int_value w ys))
      × (value w m.remainder ≡ unsigned_abs (int_value w xs) % unsigned_abs (int_value w ys)) × (0 < unsigned_abs (int_value w ys))

pub top_of : (n : ℕ) (xs : List ℤ) → All (IsOf n) xs → 0 < length xs → IsOf n (top xs)
top_of n xs h some = All-get_or (IsOf n) xs (length xs - 1) (constant false) (omega (arith, some)) h

quotient_is : (x y q r : ℕ) → x ≡ q * y + r → r < y → (q ≡ x / y) × (r ≡ x % y)
quotient_is x y q r e h = (sym (ap (λ k. k / y) e ∙ div-mul-add q y r h), sym (ap (λ k. k % y) e ∙ mod-mul-add q y r h))

magnitudes : (f : Formula) (xs ys : List ℤ) → AreOperands f xs ys → length xs ≡ 32 → AreMagnitudes f xs ys (magnitudes_divided f xs ys)
magnitudes f xs ys o e =
    let long : length ys ≡ 32 = o.lengths ∙ e in
    let above : Walked Formula = negated_where f xs (top xs) in
    let g : Formula = above.state in
    let below : Walked Formula = negated_where g ys (top ys) in
    let k : Formula = below.state in
    let a = negated_means f xs (top xs) o.first (top_of f.vars xs o.first (omega (arith, e))) in
    let am : f.vars ≤ g.vars = grown_more f g a.word.grown in
    let yg : All (IsOf g.vars) ys = all_grown f g ys a.word.grown o.second in
    let b = negated_means g ys (top ys) yg (top_of g.vars ys yg (omega (arith, long))) in
    let bm : g.vars ≤ k.vars = grown_more g k b.word.grown in
    let m : Divided = division k above.word below.word in
    let d = division-means k above.word below.word (omega (arith, o.one, am, bm)) (all_grown g k above.word b.word.grown a.word.literals) b.word.literals in
    let wide : length below.word ≡ 32 = b.word.same_length ∙ long in
    record {
      grown = grown_twice f k m.formula (grown_twice f g k a.word.grown b.word.grown) d.grown;
      quotient_of = d.quotient;
      quotient_length = d.quotient_length ∙ a.word.same_length ∙ e;
      remainder_of_it = d.remainder;
      remainder_length = d.remainder_length ∙ wide;
      numbers = λ w i some.
          let mk : IsModel w k = model_before w k m.formula d.grown i in
          let mg : IsModel w g = model_before w g k b.word.grown mk in
          let sx = split_of w xs e in
          let sy = split_of w ys long in
          let x : value w above.word ≡ unsigned_abs (int_value w xs) =
          a.number w mg ∙ ap (λ n. if literal_true w (top xs) then (2 ^ n - value w xs) % 2 ^ n else value w xs) e ∙ magnitude _ _ _ _ sx in
          let y : value w below.word ≡ unsigned_abs (int_value w ys) =
          b.number w mk ∙ ap (λ n. if literal_true w (top ys) then (2 ^ n - value w ys) % 2 ^ n else value w ys) long ∙ magnitude _ _ _ _ sy in
          let there : 0 < unsigned_abs (int_value w ys) = some_magnitude (int_value w ys) (value w ys) sy.fits sy.bits some in
          let half : 2 * value w below.word ≤ 2 ^ length below.word =
          subst (λ n. 2 * value w below.word ≤ 2 ^ n) (sym wide) (omega (arith, y, magnitude_small (int_value w ys) sy.fits)) in
          let h = d.number w i (omega (arith, y, there)) half in
          let q = quotient_is (value w above.word) (value w below.word) (value w m.quotient) (value w m.remainder) h.0 h.1 in (
            q.0 ∙ ap (λ n. n / value w below.word) x ∙ ap (λ n. unsigned_abs (int_value w xs) / n) y,
            q.1 ∙ ap (λ n. n % value w below.word) x ∙ ap (λ n. unsigned_abs (int_value w xs) % n) y,
            there,
          );
    }

sign_made : (f : Formula) (xs ys : List ℤ) → AreOperands f xs ys → length xs ≡ 32
    → IsBit (magnitudes_divided f xs ys).formula (differing (magnitudes_divided f xs ys).formula (top xs) (top ys))
    (λ w. gate_value Xor (literal_true w (top xs)) (literal_true w (top ys)))
sign_made f xs ys o e =
    let m : Divided = magnitudes_divided f xs ys in
    let h = magnitudes f xs ys o e in
    differing_bit m.formula (top xs) (top ys)
    (IsOf-grown f m.formula (top xs) h.grown (top_of f.vars xs o.first (omega (arith, e))))
    (IsOf-grown f m.formula (top ys) h.grown (top_of f.vars ys o.second (omega (arith, e, o.lengths))))

-- the word of a magnitude and a sign
signed_number : (f g : Formula) (word xs : List ℤ) (sign : ℤ) → IsGrown f g → All (IsOf g.vars) word → IsOf g.vars sign
    → length word ≡ 32 → length xs ≡ 32 → IsNumber f xs (negated_where g word sign)
    (λ w. if literal_true w sign then (2 ^ 32 - value w word) % 2 ^ 32 else value w word)
signed_number f g word xs sign h p s e ex =
    let k = negated_means g word sign p s in
    record {
      word = record {
        grown = grown_twice f g (negated_where g word sign).state h k.word.grown;
        literals = k.word.literals;
        same_length = k.word.same_length ∙ e ∙ sym ex;
      };
      number = λ w m. k.number w m ∙ ap (λ n. if literal_true w sign then (2 ^ n - value w word) % 2 ^ n else value w word) e;
    }

quotient_number : (f : Formula) (xs ys : List ℤ) → AreOperands f xs ys → length xs ≡ 32 → IsNumber f xs (quotient_word f xs ys)
    (λ w. let m : Divided = magnitudes_divided f xs ys in if literal_true w (differing m.formula (top xs) (top ys)).literal
    then (2 ^ 32 - value w m.quotient) % 2 ^ 32 else value w m.quotient)
quotient_number f xs ys o e =
    let m : Divided = magnitudes_divided f xs ys in
    let h = magnitudes f xs ys o e in
    let sign : Made = differing m.formula (top xs) (top ys) in
    let s = sign_made f xs ys o e in
    signed_number f sign.formula m.quotient xs sign.literal (grown_twice f m.formula sign.formula h.grown s.grown)
    (all_grown m.formula sign.formula m.quotient s.grown h.quotient_of) s.literal h.quotient_length e

remainder_number : (f : Formula) (xs ys : List ℤ) → AreOperands f xs ys → length xs ≡ 32 → IsNumber f xs (remainder_word f xs ys)
    (λ w. let m : Divided = magnitudes_divided f xs ys in if literal_true w (top xs) then (2 ^ 32 - value w m.remainder) % 2 ^ 32 else value w m.remainder)
remainder_number f xs ys o e =
    let m : Divided = magnitudes_divided f xs ys in
    let h = magnitudes f xs ys o e in
    signed_number f m.formula m.remainder xs (top xs) h.grown h.remainder_of_it
    (IsOf-grown f m.formula (top xs) h.grown (top_of f.vars xs o.first (omega (arith, e)))) h.remainder_length e

where_some : (z x : ℤ) → 0 < unsigned_abs z → x ≡ (if int_eq z (pos 0) then pos 0 else x)
where_some z x h = ap (λ k. if k then pos 0 else x) (sym (not_zero z h))

pub quotient_32 : (f : Formula) (xs ys : List ℤ) → AreOperands f xs ys → length xs ≡ 32 → (w : Valuation) → IsModel w (quotient_word f xs ys).state
    → 0 < value w ys → int_value w (quotient_word f xs ys).word ≡ quotient (int_value w xs) (int_value w ys)
quotient_32 f xs ys o e w i some =
    let m : Divided = magnitudes_divided f xs ys in
    let a : ℤ = int_value w xs in
    let b : ℤ = int_value w ys in
    let h = magnitudes f xs ys o e in
    let sign : Made = differing m.formula (top xs) (top ys) in
    let s = sign_made f xs ys o e in
    let last : Walked Formula = quotient_word f xs ys in
    let k = negated_means sign.formula m.quotient sign.literal
    (all_grown m.formula sign.formula m.quotient s.grown h.quotient_of) s.literal in
    let ms : IsModel w sign.formula = model_before w sign.formula last.state k.word.grown i in
    let mm : IsModel w m.formula = model_before w m.formula sign.formula s.grown ms in
    let n = h.numbers w mm some in
    let sx = split_of w xs e in
    let sy = split_of w ys (o.lengths ∙ e) in
    let t : literal_true w sign.literal ≡ signs_differ a b =
    s.value w ms ∙ ap (λ p. gate_value Xor p (literal_true w (top ys))) (is_sign _ _ _ _ sx) ∙ ap (gate_value Xor (is_below a)) (is_sign _ _ _ _ sy)
    ∙ signs a b in
    let small : value w m.quotient < 2 ^ 32 = subst (λ j. value w m.quotient < 2 ^ j) h.quotient_length (value_below w m.quotient) in
    ap (cast_signed w32) ((quotient_number f xs ys o e).number w i) ∙ signed_bits (literal_true w sign.literal) (value w m.quotient) small
    ∙ ap (λ p. wrapped (with_sign p (value w m.quotient))) t ∙ ap (λ j. wrapped (with_sign (signs_differ a b) j)) n.0
    ∙ where_some b _ n.2

pub remainder_32 : (f : Formula) (xs ys : List ℤ) → AreOperands f xs ys → length xs ≡ 32 → (w : Valuation) → IsModel w (remainder_word f xs ys).state
    → 0 < value w ys → int_value w (remainder_word f xs ys).word ≡ remainder (int_value w xs) (int_value w ys)
remainder_32 f xs ys o e w i some =
    let m : Divided = magnitudes_divided f xs ys in
    let a : ℤ = int_value w xs in
    let b : ℤ = int_value w ys in
    let h = magnitudes f xs ys o e in
    let last : Walked Formula = remainder_word f xs ys in
    let k = negated_means m.formula m.remainder (top xs) h.remainder_of_it
    (IsOf-grown f m.formula (top xs) h.grown (top_of f.vars xs o.first (omega (arith, e)))) in
    let mm : IsModel w m.formula = model_before w m.formula last.state k.word.grown i in
    let n = h.numbers w mm some in
    let sx = split_of w xs e in
    let sy = split_of w ys (o.lengths ∙ e) in
    let rest : unsigned_abs a % unsigned_abs b < unsigned_abs b = mod_below (unsigned_abs a) (unsigned_abs b) n.2 in
    let small : value w m.remainder < 2 ^ 31 = omega (arith, n.1, rest, magnitude_small b sy.fits) in
    ap (cast_signed w32) ((remainder_number f xs ys o e).number w i) ∙ signed_small (literal_true w (top xs)) (value w m.remainder) small
    ∙ ap (λ p. with_sign p (value w m.remainder)) (is_sign _ _ _ _ sx ∙ below_is a) ∙ ap (with_sign (is_negative a)) n.1
    ∙ where_some b _ n.2

-- an int plus 2 ^ 31
abbrev offset : ℤ → ℕ
offset (pos n) = n + 2 ^ 31
offset (negsuc n) = 2 ^ 31 - suc n

biased_number : (z : ℤ) (v low : ℕ) (t : Bool) → IsSplit z v low t → low + 2 ^ 31 * digit (not t) ≡ offset z
biased_number (pos n) v low true s = absurd (omega (arith, s.fits, s.bits, s.split, s.below))
biased_number (pos n) v low false s = omega (arith, s.bits, s.split)
biased_number (negsuc n) v low false s = absurd (omega (arith, s.fits, s.bits, s.split, s.below))
biased_number (negsuc n) v low true s = omega (arith, s.fits, s.bits, s.split)

biased_value : (w : Valuation) (xs : List ℤ) (n : ℕ) → All (IsOf n) xs → length xs ≡ 32 → value w (with_sign_inverted xs) ≡ offset (int_value w xs)
biased_value w xs n h e =
    let front : List ℤ = take (length xs - 1) xs in
    let j : length xs - 1 ≡ 31 = omega (arith, e) in
    let long : length front ≡ 31 = length-take (length xs - 1) xs ∙ omega (arith, e) in
    let t : ℤ = top xs in
    let neg : literal_true w (neg_ℤ t) ≡ not (literal_true w t) = literal_true-neg w t (top_of n xs h (omega (arith, e))).0 in
    value_append w front (neg_ℤ t ∷ []) ∙ ap (λ k. value w front + 2 ^ k * value w (neg_ℤ t ∷ [])) long
    ∙ ap (λ k. value w (take k xs) + 2 ^ 31 * value w (neg_ℤ t ∷ [])) j
    ∙ ap (λ k. value w (take 31 xs) + 2 ^ 31 * k) (ap (λ p. digit p + 2 * 0) neg ∙ omega arith)
    ∙ biased_number _ _ _ _ (split_of w xs e)

offset_lt : (a b : ℤ) → FitsSigned w32 a → FitsSigned w32 b → nat_lt (offset a) (offset b) ≡ int_lt a b
offset_lt (pos n) (pos k) f g = grind (arith, nat_tests)
offset_lt (pos n) (negsuc k) f g = grind (arith, nat_tests)
offset_lt (negsuc n) (pos k) f g = let h : n < 2 ^ 31 = omega (arith, f) in grind (arith, nat_tests, h)
offset_lt (negsuc n) (negsuc k) f g = let h : n < 2 ^ 31 = omega (arith, f) in let i : k < 2 ^ 31 = omega (arith, g) in grind (arith, nat_tests, h, i)

offset_le : (a b : ℤ) → FitsSigned w32 a → FitsSigned w32 b → nat_le (offset a) (offset b) ≡ int_le a b
offset_le (pos n) (pos k) f g = grind (arith, nat_tests)
offset_le (pos n) (negsuc k) f g = grind (arith, nat_tests)
offset_le (negsuc n) (pos k) f g = let h : n < 2 ^ 31 = omega (arith, f) in grind (arith, nat_tests, h)
offset_le (negsuc n) (negsuc k) f g = let h : n < 2 ^ 31 = omega (arith, f) in let i : k < 2 ^ 31 = omega (arith, g) in grind (arith, nat_tests, h, i)

by_offsets : (l : Bool) (a b : ℤ) → FitsSigned w32 a → FitsSigned w32 b
    → (if l then nat_le (offset a) (offset b) else nat_lt (offset a) (offset b)) ≡ (if l then int_le a b else int_lt a b)
by_offsets true a b f g = offset_le a b f g
by_offsets false a b f g = offset_lt a b f g

biased_of : (n : ℕ) (xs : List ℤ) → All (IsOf n) xs → 0 < length xs → All (IsOf n) (with_sign_inverted xs)
biased_of n xs h some = biased_are (IsOf n) xs (IsOf-opposite n (top xs) (top_of n xs h some)) h

pub order_32 : (f : Formula) (low : ℤ) (xs ys : List ℤ) → AreOperands f xs ys → IsOf f.vars low → length xs ≡ 32 → IsBit f (compared_signed f low xs ys)
    (λ w. if literal_true w low then int_le (int_value w xs) (int_value w ys) else int_lt (int_value w xs) (int_value w ys))
order_32 f low xs ys o l e =
    let long : length ys ≡ 32 = o.lengths ∙ e in
    let sx : 0 < length xs = omega (arith, e) in
    let sy : 0 < length ys = omega (arith, long) in
    let h = compared_bit (kept f low) (with_sign_inverted xs) (with_sign_inverted ys) l (biased_of f.vars xs o.first sx) (biased_of f.vars ys o.second sy)
    (biased_length ys sy ∙ o.lengths ∙ sym (biased_length xs sx)) in
    record {
      grown = h.grown;
      literal = h.literal;
      value = λ w m. h.value w m
          ∙ ap (λ k. if literal_true w low then nat_le k (value w (with_sign_inverted ys)) else nat_lt k (value w (with_sign_inverted ys))) (biased_value w xs f.vars o.first e)
          ∙ ap (λ k. if literal_true w low then nat_le (offset (int_value w xs)) k else nat_lt (offset (int_value w xs)) k) (biased_value w ys f.vars o.second long)
          ∙ by_offsets (literal_true w low) (int_value w xs) (int_value w ys) (split_of w xs e).fits (split_of w ys long).fits;
    }

pub signed-mean : SignedMean
signed-mean = record {
  negate = negated_means;
  divided = λ f xs ys o e. (quotient_number f xs ys o e).word;
  quotient = quotient_32;
  left_over = λ f xs ys o e. (remainder_number f xs ys o e).word;
  remainder = remainder_32;
  order = order_32;
}
