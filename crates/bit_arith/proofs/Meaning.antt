-- The meaning of sums, differences and products of words.
use Rattle.std.proofs.Common.{◌≡◌, ℕ, suc, ◌+◌, ◌-◌, ◌*◌, ◌^◌, ◌<◌, ◌≤◌, List, [], ◌∷◌, ◌++◌, ℤ, neg_ℤ, refl, ap, sym, ◌∙◌, subst, arith, true, false, length, take, drop, replicate}
use Rattle.std.specs.Prelude.{◌%◌}
use Rattle.std.specs.Int.{w32, cast_signed}
use Rattle.std.specs.List.{All}
use Rattle.std.proofs.Math.Nat.{mul-zero}
use Rattle.std.proofs.lemmas.Int.{wrapping_add-bits, wrapping_sub-bits, wrapping_mul-bits}
use Rattle.std.proofs.lemmas.List.{length-replicate, length-map, length-take, length-drop, length-append}
use Rattle.std.proofs.lemmas.List.Elements.{All-replicate, All-append, All-take, All-drop, All-head, All-tail, All-map, All-weaker}
use Rattle.int_ops.specs.Arith.{plus, minus, times}
use Rattle.cnf_core.specs.Clauses.{Formula, Valuation, literal_true}
use Rattle.cnf_core.specs.declared.gates.Gate.TheVariants.{And}
use Rattle.bit_gates.specs.Folded.{Made, constant}
use Rattle.bit_gates.specs.Laws.{IsModel, IsOf}
use Rattle.bit_gates.proofs.Blocks.{grown_none, grown_more, grown_twice, IsOf-opposite, model_before}
use Rattle.bit_gates.proofs.Meaning.{constant_of, constant_value}
use Rattle.bit_words.specs.Words.{Walked, gated_words, word_sum, inverted_word}
use Rattle.bit_words.specs.Laws.{digit, number_of, value, IsWord}
use Rattle.bit_words.proofs.Meaning.{all_grown, gated_words_mean, words-mean, invert_means}
use Rattle.bit_arith.specs.Sums.{plus_word, minus_word, zeros, with_row, with_product, times_word}
use Rattle.bit_arith.specs.Laws.{int_value, IsNumber, AreOperands, ArithMean}
use Rattle.bit_arith.proofs.Values.{value_below, value_append, value_split, value_zeros, remainder_of, row_value, row_number, product_number}

-- the number of a word of the same length as another
below : (w : Valuation) (xs out : List ℤ) → length out ≡ length xs → value w out < 2 ^ length xs
below w xs out e = subst (λ n. value w out < 2 ^ n) e (value_below w out)

false_digit : (w : Valuation) (f : Formula) → IsModel w f → digit (literal_true w (constant false)) ≡ 0
false_digit w f m = ap digit (constant_value w false m.one)

true_digit : (w : Valuation) (f : Formula) → IsModel w f → digit (literal_true w (constant true)) ≡ 1
true_digit w f m = ap digit (constant_value w true m.one)

pub sum_means : (f : Formula) (xs ys : List ℤ) → AreOperands f xs ys
    → IsNumber f xs (plus_word f xs ys) (λ w. (value w xs + value w ys) % 2 ^ length xs)
sum_means f xs ys o =
    let m : Walked Made = word_sum f xs ys (constant false) in
    let h = words-mean.add f xs ys (constant false) o.first o.second (constant_of f.vars false o.one) o.lengths in
    record {
      word = h.word;
      number = λ w k.
          let d : digit (literal_true w (constant false)) ≡ 0 = false_digit w m.state.formula k in
          let e : value w m.word + 2 ^ length xs * digit (literal_true w m.state.literal) ≡ value w xs + value w ys = h.sum w k ∙ omega (arith, d) in
          remainder_of (2 ^ length xs) (digit (literal_true w m.state.literal)) _ _ (below w xs m.word h.word.same_length) e;
    }

pub all_inverted : (n : ℕ) (ys : List ℤ) → All (IsOf n) ys → All (IsOf n) (inverted_word ys)
all_inverted n ys h = All-map (IsOf n) neg_ℤ ys (All-weaker (IsOf n) (λ l. IsOf n (neg_ℤ l)) (λ l o. IsOf-opposite n l o) ys h)

pub difference_means : (f : Formula) (xs ys : List ℤ) → AreOperands f xs ys
    → IsNumber f xs (minus_word f xs ys) (λ w. (value w xs + (2 ^ length xs - value w ys)) % 2 ^ length xs)
difference_means f xs ys o =
    let m : Walked Made = word_sum f xs (inverted_word ys) (constant true) in
    let h = words-mean.add f xs (inverted_word ys) (constant true) o.first (all_inverted f.vars ys o.second) (constant_of f.vars true o.one)
    (length-map ys neg_ℤ ∙ o.lengths) in
    record {
      word = h.word;
      number = λ w k.
          let d : digit (literal_true w (constant true)) ≡ 1 = true_digit w m.state.formula k in
          let i : value w (inverted_word ys) + value w ys + 1 ≡ 2 ^ length xs = invert_means w f.vars ys o.second ∙ ap (λ n. 2 ^ n) o.lengths in
          let e : value w m.word + 2 ^ length xs * digit (literal_true w m.state.literal) ≡ value w xs + (2 ^ length xs - value w ys) =
          h.sum w k ∙ omega (arith, d, i) in
          remainder_of (2 ^ length xs) (digit (literal_true w m.state.literal)) _ _ (below w xs m.word h.word.same_length) e;
    }

-- a word is a product modulo 2 to the power of its length
pub record IsUpTo (f : Formula) (word : List ℤ) (m : Walked Formula) (meaning : Valuation → ℕ) : Type 0 where
  pub same : IsWord f m.state word m.word
  pub number : (w : Valuation) → IsModel w m.state → (k : ℕ) × (value w m.word + 2 ^ length word * k ≡ meaning w)

row_means : (f : Formula) (word xs : List ℤ) (b : ℤ) → All (IsOf f.vars) word → All (IsOf f.vars) xs → IsOf f.vars b
    → length word ≤ length xs → IsUpTo f word (with_row f word xs b) (λ w. value w word + digit (literal_true w b) * value w xs)
row_means f word xs b p q o le =
    let n : ℕ = length word in
    let front : List ℤ = take n xs in
    let long : length front ≡ n = length-take n xs ∙ omega (arith, le) in
    let row : Walked Formula = gated_words And f front (replicate n b) in
    let g = gated_words_mean And f front (replicate n b) (All-take (IsOf f.vars) n xs q) (All-replicate (IsOf f.vars) n b o)
    (length-replicate n b ∙ sym long) in
    let more : f.vars ≤ row.state.vars = grown_more f row.state g.word.grown in
    let m : Walked Made = word_sum row.state word row.word (constant false) in
    let enough : 0 < row.state.vars = omega (arith, o.0, o.1, more) in
    let h = words-mean.add row.state word row.word (constant false) (all_grown f row.state word g.word.grown p) g.word.literals
    (constant_of row.state.vars false enough) (g.word.same_length ∙ long) in
    record {
      same = record {
        grown = grown_twice f row.state m.state.formula g.word.grown h.word.grown;
        literals = h.word.literals;
        same_length = h.word.same_length;
      };
      number = λ w k.
          let d : digit (literal_true w (constant false)) ≡ 0 = false_digit w m.state.formula k in
          let v : value w row.word ≡ digit (literal_true w b) * value w front =
          ap number_of (g.places w (model_before w row.state m.state.formula h.word.grown k)) ∙ row_value w front b n long in
          let e : value w m.word + 2 ^ n * digit (literal_true w m.state.literal) ≡ value w word + digit (literal_true w b) * value w front =
          h.sum w k ∙ omega (arith, d, v) in (
            digit (literal_true w m.state.literal) + digit (literal_true w b) * value w (drop n xs),
            row_number (literal_true w b) (2 ^ n) _ _ _ (value w front) (value w xs) (value w (drop n xs)) e (value_split w n xs le),
          );
    }

product_more : (f : Formula) (xs : List ℤ) (bs word : List ℤ) → All (IsOf f.vars) word → All (IsOf f.vars) xs → All (IsOf f.vars) bs
    → length word ≤ length xs → length bs ≤ length word → IsUpTo f word (with_product f word xs bs) (λ w. value w word + value w xs * value w bs)
product_more f xs [] word p q r le short = record {
  same = record { grown = grown_none f; literals = p; same_length = refl };
  number = λ w k. (0, (let a : 2 ^ length word * 0 ≡ 0 = mul-zero (2 ^ length word) in let b : value w xs * 0 ≡ 0 = mul-zero (value w xs) in omega (arith, a, b)));
}
product_more f xs (b ∷ bs) [] p q r le short = absurd (omega (arith, short))
product_more f xs (b ∷ bs) (x ∷ word) p q r le short =
    let row : Walked Formula = with_row f (x ∷ word) xs b in
    let g : Formula = row.state in
    let h = row_means f (x ∷ word) xs b p q (All-head (IsOf f.vars) b bs r) le in
    let high : List ℤ = drop 1 row.word in
    let low : List ℤ = take 1 row.word in
    let long : length row.word ≡ suc (length word) = h.same.same_length in
    let len : length high ≡ length word = length-drop 1 row.word ∙ omega (arith, long) in
    let unit : length low ≡ 1 = length-take 1 row.word ∙ omega (arith, long) in
    let rest : Walked Formula = with_product g high xs bs in
    let t = product_more g xs bs high (All-drop (IsOf g.vars) 1 row.word h.same.literals) (all_grown f g xs h.same.grown q)
    (all_grown f g bs h.same.grown (All-tail (IsOf f.vars) b bs r)) (omega (arith, len, le)) (omega (arith, len, short)) in
    record {
      same = record {
        grown = grown_twice f g rest.state h.same.grown t.same.grown;
        literals = All-append (IsOf rest.state.vars) low rest.word (all_grown g rest.state low t.same.grown (All-take (IsOf g.vars) 1 row.word h.same.literals))
            t.same.literals;
        same_length = length-append low rest.word ∙ omega (arith, unit, t.same.same_length, len);
      };
      number = λ w k.
          let a = h.number w (model_before w g rest.state t.same.grown k) in
          let c = t.number w k in
          let split : value w row.word ≡ value w low + 2 * value w high = value_split w 1 row.word (omega (arith, long)) in
          let join : value w (low ++ rest.word) ≡ value w low + 2 * value w rest.word =
          value_append w low rest.word ∙ ap (λ n. value w low + 2 ^ n * value w rest.word) unit in
          let below : value w rest.word + 2 ^ length word * c.0 ≡ value w high + value w xs * value w bs =
          ap (λ n. value w rest.word + 2 ^ n * c.0) (sym len) ∙ c.1 in (
            a.0 + c.0,
            ap (λ n. n + 2 ^ suc (length word) * (a.0 + c.0)) join
                ∙ product_number (length word) (value w low) (value w rest.word) (value w high) a.0 c.0 (value w (x ∷ word)) (value w xs)
                (digit (literal_true w b)) (value w bs) (value w row.word) split below a.1,
          );
    }

pub product_means : (f : Formula) (xs ys : List ℤ) → AreOperands f xs ys
    → IsNumber f xs (times_word f xs ys) (λ w. (value w xs * value w ys) % 2 ^ length xs)
product_means f xs ys o =
    let m : Walked Formula = times_word f xs ys in
    let long : length (zeros (length xs)) ≡ length xs = length-replicate (length xs) (constant false) in
    let h = product_more f xs ys (zeros (length xs)) (All-replicate (IsOf f.vars) (length xs) (constant false) (constant_of f.vars false o.one))
    o.first o.second (omega (arith, long)) (omega (arith, long, o.lengths)) in
    record {
      word = record { grown = h.same.grown; literals = h.same.literals; same_length = h.same.same_length ∙ long };
      number = λ w k.
          let a = h.number w k in
          let z : value w (zeros (length xs)) ≡ 0 = value_zeros w (length xs) (constant_value w false k.one) in
          let e : value w m.word + 2 ^ length xs * a.0 ≡ value w xs * value w ys =
          ap (λ n. value w m.word + 2 ^ n * a.0) (sym long) ∙ a.1 ∙ omega (arith, z) in
          remainder_of (2 ^ length xs) a.0 _ _ (below w xs m.word (h.same.same_length ∙ long)) e;
    }

-- 32 bits
at_32 : (w : Valuation) (xs : List ℤ) → length xs ≡ 32 → value w xs < 2 ^ 32
at_32 w xs e = subst (λ n. value w xs < 2 ^ n) e (value_below w xs)

pub plus_32 : (f : Formula) (xs ys : List ℤ) → AreOperands f xs ys → length xs ≡ 32 → (w : Valuation) → IsModel w (plus_word f xs ys).state
    → int_value w (plus_word f xs ys).word ≡ plus (int_value w xs) (int_value w ys)
plus_32 f xs ys o e w m =
    ap (cast_signed w32) ((sum_means f xs ys o).number w m ∙ ap (λ n. (value w xs + value w ys) % 2 ^ n) e)
    ∙ wrapping_add-bits w32 (value w xs) (value w ys) (at_32 w xs e) (at_32 w ys (o.lengths ∙ e))

pub minus_32 : (f : Formula) (xs ys : List ℤ) → AreOperands f xs ys → length xs ≡ 32 → (w : Valuation) → IsModel w (minus_word f xs ys).state
    → int_value w (minus_word f xs ys).word ≡ minus (int_value w xs) (int_value w ys)
minus_32 f xs ys o e w m =
    ap (cast_signed w32) ((difference_means f xs ys o).number w m ∙ ap (λ n. (value w xs + (2 ^ n - value w ys)) % 2 ^ n) e)
    ∙ wrapping_sub-bits w32 (value w xs) (value w ys) (at_32 w xs e) (at_32 w ys (o.lengths ∙ e))

pub times_32 : (f : Formula) (xs ys : List ℤ) → AreOperands f xs ys → length xs ≡ 32 → (w : Valuation) → IsModel w (times_word f xs ys).state
    → int_value w (times_word f xs ys).word ≡ times (int_value w xs) (int_value w ys)
times_32 f xs ys o e w m =
    ap (cast_signed w32) ((product_means f xs ys o).number w m ∙ ap (λ n. (value w xs * value w ys) % 2 ^ n) e)
    ∙ wrapping_mul-bits w32 (value w xs) (value w ys) (at_32 w xs e) (at_32 w ys (o.lengths ∙ e))

pub arith-mean : ArithMean
arith-mean = record {
  sum = sum_means;
  difference = difference_means;
  product = product_means;
  plus = plus_32;
  minus = minus_32;
  times = times_32;
}
