-- How much the circuits of operators add for words of at most 32 literals, and that theirs are so too.
use Rattle.std.proofs.Common.{◌≡◌, ℕ, ◌+◌, ◌-◌, ◌*◌, ◌≤◌, true, false, List, [], ◌∷◌, ℤ, neg_ℤ, refl, arith, length, take, drop, replicate}
use Rattle.std.proofs.lemmas.List.{length-append, length-drop, length-map, length-replicate, length-take}
use Rattle.sym_terms.specs.int_ops.declared.arith.BinOp.{BinOp}
use Rattle.sym_terms.specs.int_ops.declared.arith.BinOp.TheVariants as bin
use Rattle.sym_terms.specs.int_ops.declared.arith.UnOp.{UnOp}
use Rattle.sym_terms.specs.int_ops.declared.arith.UnOp.TheVariants as un
use Rattle.cnf_core.specs.Clauses.{Formula}
use Rattle.cnf_core.specs.declared.gates.Gate.{Gate}
use Rattle.cnf_core.specs.declared.gates.Gate.TheVariants.{And, Or, Xor}
use Rattle.bit_gates.specs.Folded.{IsLarger, Made, conditional, constant, differing, folded_gate, kept, opposite}
use Rattle.bit_ops.specs.bit_words.Words.{Walked, added_place, chosen_words, gated_words, inverted_word, made_place, word_sum}
use Rattle.bit_ops.proofs.bit_words.Loops.{larger_more}
use Rattle.bit_divide.specs.bit_shift.bit_arith.Sums.{times_word, with_product, with_row, without_carry, zeros}
use Rattle.bit_divide.specs.bit_shift.Shifts.{moved, shifted, shifted_in, stage, top}
use Rattle.bit_divide.specs.bit_shift.declared.Direction.{Direction}
use Rattle.bit_divide.specs.bit_shift.declared.Direction.TheVariants.{Up, Down}
use Rattle.bit_divide.specs.Quotients.{Divided, divided, divided_place}
use Rattle.bit_signed.specs.Signed.{compared_signed, magnitudes_divided, negated_where, quotient_word, remainder_word, with_sign_inverted}
use Rattle.bit_ops.specs.Ops.{binary_word, differ, kept_where, some_of, truth_word, unary_word, where_near, where_some}
use Rattle.bit_ops.specs.Sizes.{binary_size, unary_size}
use Rattle.std.specs.Fn.{iterate}
use Rattle.circuit_sizes.proofs.Gates.{along_short, along_short_second, any_larger, chosen_larger, differing_larger, gated_larger, larger_none, larger_up, less_larger, sum_larger}

-- a circuit that adds at most `n`, with a word of at most 32 literals
pub record IsSmall (n : ℕ) (f : Formula) (w : Walked Formula) : Type 0 where
  pub larger : IsLarger n f w.state
  pub short : length w.word ≤ 32

pub small_up : (m n : ℕ) (f : Formula) (w : Walked Formula) → m ≤ n → IsSmall m f w → IsSmall n f w
small_up m n f w less h = record { larger = larger_up m n f w.state less h.larger; short = h.short }

zeros_short : (n : ℕ) → length (zeros n) ≡ n
zeros_short n = length-replicate n (constant false)

-- ---- gates along words

gated_small : (g : Gate) (f : Formula) (xs ys : List ℤ) → length xs ≤ 32 → IsSmall 128 f (gated_words g f xs ys)
gated_small g f xs ys short = record {
  larger = larger_up (length xs * 4) 128 f (gated_words g f xs ys).state (omega (arith, short)) (gated_larger g f xs ys);
  short = omega (arith, along_short (λ h a b. made_place (folded_gate g h a b)) f xs ys, short);
}

sum_small : (f : Formula) (xs ys : List ℤ) (carry : ℤ) → length xs ≤ 32 → IsSmall 544 f (without_carry (word_sum f xs ys carry))
sum_small f xs ys carry short = record {
  larger = larger_up (length xs * 17) 544 f (word_sum f xs ys carry).state.formula (omega (arith, short)) (sum_larger f xs ys carry);
  short = omega (arith, along_short added_place (kept f carry) xs ys, short);
}

some_larger : (f : Formula) (xs : List ℤ) → length xs ≤ 32 → IsLarger 96 f (some_of f xs).formula
some_larger f xs short = larger_up (length xs * 3) 96 f (some_of f xs).formula (omega (arith, short)) (any_larger (kept f (constant false)) xs)

truth_small : (n : ℕ) (f : Formula) (m : Made) → IsLarger n f m.formula → IsSmall n f (truth_word m)
truth_small n f m h = record { larger = h; short = omega (arith, zeros_short 31) }

differ_larger : (f : Formula) (xs ys : List ℤ) → length xs ≤ 32 → IsLarger 224 f (differ f xs ys).formula
differ_larger f xs ys short =
    let apart : Walked Formula = gated_words Xor f xs ys in
    let g = gated_small Xor f xs ys short in
    larger_more 128 96 224 f apart.state (differ f xs ys).formula g.larger (some_larger apart.state apart.word g.short) refl

compared_larger : (f : Formula) (low : ℤ) (xs ys : List ℤ) → length ys ≤ 32 → IsLarger 384 f (compared_signed f low xs ys).formula
compared_larger f low xs ys short =
    let turned : List ℤ = with_sign_inverted ys in
    let long : length turned ≡ length (take (length ys - 1) ys) + 1 = length-append (take (length ys - 1) ys) (neg_ℤ (top ys) ∷ []) in
    larger_up (length turned * 12) 384 f (compared_signed f low xs ys).formula (omega (arith, long, length-take (length ys - 1) ys, short))
    (less_larger (kept f low) (with_sign_inverted xs) turned)

kept_small : (xs : List ℤ) (m : Made) → length xs ≤ 32 → IsSmall 128 m.formula (kept_where xs m)
kept_small xs m short = gated_small And m.formula xs (replicate (length xs) m.literal) short

where_some_small : (n : ℕ) (f : Formula) (m : Walked Formula) (ys : List ℤ) → IsSmall n f m → length ys ≤ 32 → IsSmall (n + 224) f (where_some m ys)
where_some_small n f m ys h short =
    let some : Made = some_of m.state ys in
    let k = kept_small m.word some h.short in
    record {
      larger = larger_more n 224 (n + 224) f m.state (where_some m ys).state h.larger
          (larger_more 96 128 224 m.state some.formula (where_some m ys).state (some_larger m.state ys short) k.larger refl) refl;
      short = k.short;
    }

where_near_small : (n : ℕ) (f : Formula) (m : Walked Formula) (ys : List ℤ) → IsSmall n f m → length ys ≤ 32 → IsSmall (n + 224) f (where_near m ys)
where_near_small n f m ys h short =
    let some : Made = some_of m.state (drop 5 ys) in
    let k = kept_small m.word (opposite some) h.short in
    record {
      larger = larger_more n 224 (n + 224) f m.state (where_near m ys).state h.larger
          (larger_more 96 128 224 m.state some.formula (where_near m ys).state
          (some_larger m.state (drop 5 ys) (omega (arith, length-drop 5 ys, short))) k.larger refl) refl;
      short = k.short;
    }

-- ---- products

row_small : (f : Formula) (word xs : List ℤ) (bit : ℤ) → length word ≤ 32
    → IsLarger 672 f (with_row f word xs bit).state × (length (with_row f word xs bit).word ≤ length word)
row_small f word xs bit short =
    let front : List ℤ = take (length word) xs in
    let row : Walked Formula = gated_words And f front (replicate (length word) bit) in
    let g = gated_small And f front (replicate (length word) bit) (omega (arith, length-take (length word) xs, short)) in
    let s = sum_small row.state word row.word (constant false) short in (
      larger_more 128 544 672 f row.state (with_row f word xs bit).state g.larger s.larger refl,
      along_short added_place (kept row.state (constant false)) word row.word,
    )

product_small : (f : Formula) (word xs bs : List ℤ) → length word ≤ 32
    → IsLarger (length bs * 672) f (with_product f word xs bs).state × (length (with_product f word xs bs).word ≤ length word)
product_small f word xs [] short = ((omega arith, omega arith, omega arith), omega arith)
product_small f word xs (b ∷ bs) short =
    let row : Walked Formula = with_row f word xs b in
    let r = row_small f word xs b short in
    let below : length row.word ≤ length word = r.1 in
    let rest : Walked Formula = with_product row.state (drop 1 row.word) xs bs in
    let cut : length (drop 1 row.word) ≡ length row.word - 1 = length-drop 1 row.word in
    let s = product_small row.state (drop 1 row.word) xs bs (omega (arith, cut, below, short)) in
    let few : length rest.word ≤ length (drop 1 row.word) = s.1 in (
      larger_more 672 (length bs * 672) (length (b ∷ bs) * 672) f row.state (with_product f word xs (b ∷ bs)).state r.0 s.0 (omega arith),
      omega (arith, length-append (take 1 row.word) rest.word, length-take 1 row.word, cut, few, below),
    )

times_small : (f : Formula) (xs ys : List ℤ) → length xs ≤ 32 → length ys ≤ 32 → IsSmall 21_504 f (times_word f xs ys)
times_small f xs ys short few =
    let long : length (zeros (length xs)) ≡ length xs = zeros_short (length xs) in
    let p = product_small f (zeros (length xs)) xs ys (omega (arith, long, short)) in
    let below : length (times_word f xs ys).word ≤ length (zeros (length xs)) = p.1 in
    record { larger = larger_up (length ys * 672) 21_504 f (times_word f xs ys).state (omega (arith, few)) p.0; short = omega (arith, below, long, short) }

-- ---- quotients

negated_small : (f : Formula) (xs : List ℤ) (sign : ℤ) → length xs ≤ 32 → IsSmall 672 f (negated_where f xs sign)
negated_small f xs sign short =
    let flipped : Walked Formula = gated_words Xor f xs (replicate (length xs) sign) in
    let g = gated_small Xor f xs (replicate (length xs) sign) short in
    let s = sum_small flipped.state flipped.word (zeros (length xs)) sign g.short in
    record { larger = larger_more 128 544 672 f flipped.state (negated_where f xs sign).state g.larger s.larger refl; short = s.short }

place_small : (f : Formula) (rest : List ℤ) (bit : ℤ) (opposite : List ℤ) → length rest ≤ 32
    → IsLarger 832 f (divided_place f rest bit opposite).state.formula × (length (divided_place f rest bit opposite).word ≤ 32)
place_small f rest bit opposite short =
    let next : List ℤ = shifted_in bit rest in
    let few : length next ≤ 32 = omega (arith, length-take (length rest) (bit ∷ rest), short) in
    let less : Walked Made = word_sum f next opposite (constant true) in
    let s = sum_small f next opposite (constant true) few in
    let kept_word : Walked Formula = chosen_words less.state.literal less.state.formula less.word next in
    let k = larger_up (length next * 9) 288 less.state.formula kept_word.state (omega (arith, few))
    (chosen_larger less.state.literal less.state.formula less.word next) in (
      larger_more 544 288 832 f less.state.formula kept_word.state s.larger k refl,
      omega (arith, along_short_second (λ h a b. made_place (conditional h less.state.literal a b)) less.state.formula less.word next, few),
    )

record IsDivided (n : ℕ) (f : Formula) (d : Divided) : Type 0 where
  larger : IsLarger n f d.formula
  remainder : length d.remainder ≤ 32

divided_small : (f : Formula) (rest opposite xs : List ℤ) → length rest ≤ 32
    → IsDivided (length xs * 832) f (divided f rest opposite xs) × (length (divided f rest opposite xs).quotient ≡ length xs)
divided_small f rest opposite [] short = (record { larger = (omega arith, omega arith, omega arith); remainder = short }, refl)
divided_small f rest opposite (x ∷ xs) short =
    let high : Divided = divided f rest opposite xs in
    let h = divided_small f rest opposite xs short in
    let p = place_small high.formula high.remainder x opposite h.0.remainder in (
      record {
        larger = larger_more (length xs * 832) 832 (length (x ∷ xs) * 832) f high.formula (divided f rest opposite (x ∷ xs)).formula h.0.larger p.0 (omega arith);
        remainder = p.1;
      },
      omega (arith, h.1),
    )

magnitudes_small : (f : Formula) (xs ys : List ℤ) → length xs ≤ 32 → length ys ≤ 32
    → IsDivided 27_968 f (magnitudes_divided f xs ys) × (length (magnitudes_divided f xs ys).quotient ≤ 32)
magnitudes_small f xs ys p q =
    let above : Walked Formula = negated_where f xs (top xs) in
    let a = negated_small f xs (top xs) p in
    let below : Walked Formula = negated_where above.state ys (top ys) in
    let b = negated_small above.state ys (top ys) q in
    let short : length above.word ≤ 32 = a.short in
    let narrow : length below.word ≤ 32 = b.short in
    let first : List ℤ = zeros (length below.word) in
    let m : Divided = magnitudes_divided f xs ys in
    let d = divided_small below.state first (inverted_word below.word) above.word (omega (arith, zeros_short (length below.word), narrow)) in (
      record {
        larger = larger_more 1_344 26_624 27_968 f below.state m.formula
            (larger_more 672 672 1_344 f above.state below.state a.larger b.larger refl)
            (larger_up (length above.word * 832) 26_624 below.state m.formula (omega (arith, short)) d.0.larger) refl;
        remainder = d.0.remainder;
      },
      omega (arith, d.1, short),
    )

quotient_small : (f : Formula) (xs ys : List ℤ) → length xs ≤ 32 → length ys ≤ 32 → IsSmall 28_644 f (quotient_word f xs ys)
quotient_small f xs ys p q =
    let m : Divided = magnitudes_divided f xs ys in
    let d = magnitudes_small f xs ys p q in
    let sign : Made = differing m.formula (top xs) (top ys) in
    let n = negated_small sign.formula m.quotient sign.literal d.1 in
    record {
      larger = larger_more 27_972 672 28_644 f sign.formula (quotient_word f xs ys).state
          (larger_more 27_968 4 27_972 f m.formula sign.formula d.0.larger (differing_larger m.formula (top xs) (top ys)) refl) n.larger refl;
      short = n.short;
    }

remainder_small : (f : Formula) (xs ys : List ℤ) → length xs ≤ 32 → length ys ≤ 32 → IsSmall 28_640 f (remainder_word f xs ys)
remainder_small f xs ys p q =
    let m : Divided = magnitudes_divided f xs ys in
    let d = magnitudes_small f xs ys p q in
    let n = negated_small m.formula m.remainder (top xs) d.0.remainder in
    record { larger = larger_more 27_968 672 28_640 f m.formula (remainder_word f xs ys).state d.0.larger n.larger refl; short = n.short }

-- ---- shifts

shifted_small : (to : Direction) (bit : ℤ) (by : ℕ) (f : Formula) (word ds : List ℤ) → length word ≤ 32
    → IsLarger (length ds * 288) f (shifted to bit by f word ds).state × (length (shifted to bit by f word ds).word ≤ 32)
shifted_small to bit by f word [] short = ((omega arith, omega arith, omega arith), short)
shifted_small to bit by f word (d ∷ ds) short =
    let here : Walked Formula = stage to bit by d f word in
    let turned : List ℤ = iterate (moved to bit) by word in
    let one : IsLarger 288 f here.state =
    larger_up (length word * 9) 288 f here.state (omega (arith, short)) (chosen_larger d f turned word) in
    let few : length here.word ≤ 32 = omega (arith, along_short_second (λ h a b. made_place (conditional h d a b)) f turned word, short) in
    let rest = shifted_small to bit (by + by) here.state here.word ds few in (
      larger_more 288 (length ds * 288) (length (d ∷ ds) * 288) f here.state (shifted to bit by f word (d ∷ ds)).state one rest.0 (omega arith),
      rest.1,
    )

barrel_small : (to : Direction) (bit : ℤ) (f : Formula) (xs ys : List ℤ) → length xs ≤ 32 → length ys ≤ 32
    → IsSmall 1_664 f (where_near (shifted to bit 1 f xs (take 5 ys)) ys)
barrel_small to bit f xs ys p q =
    let s = shifted_small to bit 1 f xs (take 5 ys) p in
    let m : Walked Formula = shifted to bit 1 f xs (take 5 ys) in
    where_near_small 1_440 f m ys
    (record { larger = larger_up (length (take 5 ys) * 288) 1_440 f m.state (omega (arith, length-take 5 ys)) s.0; short = s.1 }) q

-- ---- operators

pub unary_small : (op : UnOp) (f : Formula) (xs : List ℤ) → length xs ≤ 32 → IsSmall (unary_size op) f (unary_word op f xs)
unary_small un.Neg f xs short = sum_small f (zeros 32) (inverted_word xs) (constant true) (omega (arith, zeros_short 32))
unary_small un.Not f xs short = truth_small 96 f (opposite (some_of f xs)) (some_larger f xs short)
unary_small un.Inv f xs short = record { larger = larger_none 0 f; short = omega (arith, length-map xs neg_ℤ, short) }

pub binary_small : (op : BinOp) (f : Formula) (xs ys : List ℤ) → length xs ≤ 32 → length ys ≤ 32 → IsSmall (binary_size op) f (binary_word op f xs ys)
binary_small bin.Add f xs ys p q = sum_small f xs ys (constant false) p
binary_small bin.Sub f xs ys p q = sum_small f xs (inverted_word ys) (constant true) p
binary_small bin.Mul f xs ys p q = times_small f xs ys p q
binary_small bin.And f xs ys p q = gated_small And f xs ys p
binary_small bin.Or f xs ys p q = gated_small Or f xs ys p
binary_small bin.Xor f xs ys p q = gated_small Xor f xs ys p
binary_small bin.Eq f xs ys p q = truth_small 224 f (opposite (differ f xs ys)) (differ_larger f xs ys p)
binary_small bin.Ne f xs ys p q = truth_small 224 f (differ f xs ys) (differ_larger f xs ys p)
binary_small bin.Lt f xs ys p q = truth_small 384 f (compared_signed f (constant false) xs ys) (compared_larger f (constant false) xs ys q)
binary_small bin.Le f xs ys p q = truth_small 384 f (compared_signed f (constant true) xs ys) (compared_larger f (constant true) xs ys q)
binary_small bin.Gt f xs ys p q = truth_small 384 f (compared_signed f (constant false) ys xs) (compared_larger f (constant false) ys xs p)
binary_small bin.Ge f xs ys p q = truth_small 384 f (compared_signed f (constant true) ys xs) (compared_larger f (constant true) ys xs p)
binary_small bin.Div f xs ys p q = where_some_small 28_644 f (quotient_word f xs ys) ys (quotient_small f xs ys p q) q
binary_small bin.Rem f xs ys p q = where_some_small 28_640 f (remainder_word f xs ys) ys (remainder_small f xs ys p q) q
binary_small bin.Shl f xs ys p q = barrel_small Up (constant false) f xs ys p q
binary_small bin.Shr f xs ys p q = barrel_small Down (top xs) f xs ys p q
