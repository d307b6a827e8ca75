-- The meaning of shifts.
use Rattle.std.proofs.Common.{◌≡◌, ℕ, suc, zero, ◌+◌, ◌-◌, ◌*◌, ◌/◌, ◌^◌, ◌<◌, ◌≤◌, List, [], ◌∷◌, ◌++◌, ℤ, pos, negsuc, ◌*ℤ◌, refl, ap, sym, ◌∙◌, subst, arith, Bool, true, false, not, length, take, drop, get_or, FitsSigned}
use Rattle.std.specs.Prelude.{◌%◌, if◌then◌else◌, map}
use Rattle.std.specs.Fn.{iterate}
use Rattle.std.specs.Int.{w32, cast_signed, cast_unsigned, int_wrap, int_div_euclid}
use Rattle.std.specs.List.{All}
use Rattle.std.proofs.Math.Nat.{mul-one, mul-zero, mul-add, add-mul, mul_assoc, mul_comm, div-one, div-le_self, div-div-eq-div-mul, mod-eq_of_lt, pow-suc}
use Rattle.std.proofs.lemmas.Nat.{pow-add, pow_below, mul-mod_first}
use Rattle.std.proofs.lemmas.Int.{of_z-to_z, to_z-of_z, to_z_pos, wrapping_mul-bits, int_wrap-mul_right}
use mir.ValLaws.{to_z-neg, to_z-Fits}
use Rattle.std.proofs.lemmas.List.{drop-map, map-append, length-map, length-take, drop_all, get_or_default}
use Rattle.std.proofs.lemmas.List.Elements.{All-head, All-tail}
use Rattle.bit_arith.specs.int_ops.Arith.{times, is_distance, shifted_left, shifted_right}
use Rattle.bit_arith.proofs.int_ops.Bits.{unsigned-below}
use Rattle.cnf_core.specs.Clauses.{Formula, Valuation, literal_true}
use Rattle.bit_gates.specs.Folded.{constant}
use Rattle.bit_gates.specs.Laws.{IsModel, IsOf}
use Rattle.bit_gates.proofs.Blocks.{grown_none, grown_twice, IsOf-grown, model_before}
use Rattle.bit_gates.proofs.Meaning.{constant_value}
use Rattle.bit_words.specs.Words.{Walked}
use Rattle.bit_words.specs.Laws.{values, digit, number_of, value, at_places, IsWord, IsPlaced}
use Rattle.bit_words.proofs.Loops.{split_here}
use Rattle.bit_words.proofs.Meaning.{all_grown, chosen_words_mean}
use Rattle.bit_arith.specs.Laws.{int_value}
use Rattle.bit_arith.proofs.Values.{value_below, value_split, remainder_of, digit_small}
use Rattle.bit_shift.specs.declared.Direction.{Direction}
use Rattle.bit_shift.specs.declared.Direction.TheVariants.{Up, Down}
use Rattle.bit_shift.specs.Shifts.{shifted_in, shifted_out, top, moved, stage, shifted}
use Rattle.bit_shift.specs.Laws.{number_from, AreShifted, ShiftsMean}
use Rattle.bit_shift.proofs.Moves.{moved_length, far_length, far_are}

first_word : (ps qs : List Bool) → length qs ≡ length ps → at_places (λ p q. p) ps qs ≡ ps
first_word [] qs e = refl
first_word (p ∷ ps) [] e = absurd (omega (arith, e))
first_word (p ∷ ps) (q ∷ qs) e = ap (λ k. p ∷ k) (first_word ps qs (omega (arith, e)))

second_word : (ps qs : List Bool) → length qs ≡ length ps → at_places (λ p q. q) ps qs ≡ qs
second_word [] [] e = refl
second_word [] (q ∷ qs) e = absurd (omega (arith, e))
second_word (p ∷ ps) [] e = absurd (omega (arith, e))
second_word (p ∷ ps) (q ∷ qs) e = ap (λ k. q ∷ k) (second_word ps qs (omega (arith, e)))

-- one word or the other
pub chosen_values : (c : Bool) (ps qs : List Bool) → length qs ≡ length ps → at_places (λ p q. if c then p else q) ps qs ≡ (if c then ps else qs)
chosen_values true ps qs e = first_word ps qs e
chosen_values false ps qs e = second_word ps qs e

stage_means : (to : Direction) (bit : ℤ) (by : ℕ) (d : ℤ) (f : Formula) (xs : List ℤ) → IsOf f.vars bit → IsOf f.vars d → All (IsOf f.vars) xs
    → IsPlaced f (iterate (moved to bit) by xs) xs (stage to bit by d f xs) (λ w p q. if literal_true w d then p else q)
stage_means to bit by d f xs b o p =
    chosen_words_mean d f (iterate (moved to bit) by xs) xs o (far_are (IsOf f.vars) to bit by xs b p) p (sym (far_length to bit by xs))

shifted_word : (to : Direction) (bit : ℤ) (by : ℕ) (f : Formula) (xs ds : List ℤ) → IsOf f.vars bit → All (IsOf f.vars) xs → All (IsOf f.vars) ds
    → IsWord f (shifted to bit by f xs ds).state xs (shifted to bit by f xs ds).word
shifted_word to bit by f xs [] b p q = record { grown = grown_none f; literals = p; same_length = refl }
shifted_word to bit by f xs (d ∷ ds) b p q =
    let here : Walked Formula = stage to bit by d f xs in
    let g : Formula = here.state in
    let h = stage_means to bit by d f xs b (All-head (IsOf f.vars) d ds q) p in
    let r = shifted_word to bit (by + by) g here.word ds (IsOf-grown f g bit h.word.grown b) h.word.literals
    (all_grown f g ds h.word.grown (All-tail (IsOf f.vars) d ds q)) in
    record {
      grown = grown_twice f g (shifted to bit (by + by) g here.word ds).state h.word.grown r.grown;
      literals = r.literals;
      same_length = r.same_length ∙ h.word.same_length ∙ far_length to bit by xs;
    }

distance_sum : (by c v : ℕ) → (by + by) * v + by * c ≡ by * (c + 2 * v)
distance_sum by c v =
    let a : (by + by) * v ≡ by * v + by * v = add-mul by by v in
    let b : by * (c + 2 * v) ≡ by * c + by * (2 * v) = mul-add by c (2 * v) in
    let d : by * (2 * v) ≡ 2 * (by * v) = sym (mul_assoc by 2 v) ∙ ap (λ k. k * v) (mul_comm by 2) ∙ mul_assoc 2 by v in
    omega (arith, a, b, d)

-- a number that each stage changes alike, by the total distance of all stages
module _ (to : Direction) (bit : ℤ) (w : Valuation) (n : ℕ) (measure : List Bool → ℕ) (act : ℕ → ℕ → ℕ)
    (none : (xs : List ℤ) → length xs ≡ n → act 0 (measure (values w xs)) ≡ measure (values w xs))
    (more : (a b m : ℕ) → act a (act b m) ≡ act (a + b) m)
    (once : (xs : List ℤ) → length xs ≡ n → measure (values w (moved to bit xs)) ≡ act 1 (measure (values w xs)))
  where
    far : (by : ℕ) (xs : List ℤ) → length xs ≡ n → measure (values w (iterate (moved to bit) by xs)) ≡ act by (measure (values w xs))
    far zero xs e = sym (none xs e)
    far (suc by) xs e =
        far by (moved to bit xs) (moved_length to bit xs ∙ e) ∙ ap (act by) (once xs e) ∙ more by 1 (measure (values w xs))
        ∙ ap (λ k. act k (measure (values w xs))) (omega arith)

    chosen : (c : Bool) (by : ℕ) (xs : List ℤ) → length xs ≡ n
        → measure (if c then values w (iterate (moved to bit) by xs) else values w xs) ≡ act (by * digit c) (measure (values w xs))
    chosen true by xs e = far by xs e ∙ ap (λ k. act k (measure (values w xs))) (sym (mul-one by))
    chosen false by xs e = sym (none xs e) ∙ ap (λ k. act k (measure (values w xs))) (sym (mul-zero by))

    measured : (by : ℕ) (f : Formula) (xs ds : List ℤ) → IsOf f.vars bit → All (IsOf f.vars) xs → All (IsOf f.vars) ds → length xs ≡ n
        → IsModel w (shifted to bit by f xs ds).state
        → measure (values w (shifted to bit by f xs ds).word) ≡ act (by * value w ds) (measure (values w xs))
    measured by f xs [] b p q e m = sym (none xs e) ∙ ap (λ k. act k (measure (values w xs))) (sym (mul-zero by))
    measured by f xs (d ∷ ds) b p q e m =
        let here : Walked Formula = stage to bit by d f xs in
        let g : Formula = here.state in
        let far_xs : List ℤ = iterate (moved to bit) by xs in
        let c : Bool = literal_true w d in
        let h = stage_means to bit by d f xs b (All-head (IsOf f.vars) d ds q) p in
        let b2 : IsOf g.vars bit = IsOf-grown f g bit h.word.grown b in
        let q2 : All (IsOf g.vars) ds = all_grown f g ds h.word.grown (All-tail (IsOf f.vars) d ds q) in
        let r = shifted_word to bit (by + by) g here.word ds b2 h.word.literals q2 in
        let same : length (values w xs) ≡ length (values w far_xs) =
        length-map xs (literal_true w) ∙ sym (far_length to bit by xs) ∙ sym (length-map far_xs (literal_true w)) in
        let v : values w here.word ≡ (if c then values w far_xs else values w xs) =
        h.places w (model_before w g (shifted to bit (by + by) g here.word ds).state r.grown m) ∙ chosen_values c (values w far_xs) (values w xs) same in
        measured (by + by) g here.word ds b2 h.word.literals q2 (h.word.same_length ∙ far_length to bit by xs ∙ e) m
        ∙ ap (act ((by + by) * value w ds)) (ap measure v ∙ chosen c by xs e)
        ∙ more ((by + by) * value w ds) (by * digit c) (measure (values w xs))
        ∙ ap (λ k. act k (measure (values w xs))) (distance_sum by (digit c) (value w ds))

powers : (a b : ℕ) → 2 ^ b * 2 ^ a ≡ 2 ^ (a + b)
powers a b = mul_comm (2 ^ b) (2 ^ a) ∙ sym (pow-add 2 a b)

-- the product with a power of 2
unfoldable times_power : ℕ → ℕ → ℕ → ℕ
times_power n d m = (m * 2 ^ d) % 2 ^ n

times_none : (w : Valuation) (n : ℕ) (xs : List ℤ) → length xs ≡ n → times_power n 0 (value w xs) ≡ value w xs
unfolding times_power
times_none w n xs e =
    let u : value w xs * 1 ≡ value w xs = mul-one (value w xs) in
    ap (λ k. k % 2 ^ n) u ∙ mod-eq_of_lt (subst (λ k. value w xs < 2 ^ k) e (value_below w xs))

times_more : (n a b m : ℕ) → times_power n a (times_power n b m) ≡ times_power n (a + b) m
unfolding times_power
times_more n a b m =
    mul-mod_first (m * 2 ^ b) (2 ^ a) (2 ^ n) ∙ ap (λ k. k % 2 ^ n) (mul_assoc m (2 ^ b) (2 ^ a) ∙ ap (λ k. m * k) (powers a b))

times_once : (w : Valuation) → w 1 ≡ true → (n : ℕ) (xs : List ℤ) → length xs ≡ n
    → value w (shifted_in (constant false) xs) ≡ times_power n 1 (value w xs)
unfolding times_power
times_once w one n xs e =
    let bit : ℤ = constant false in
    let d : digit (literal_true w bit) ≡ 0 = ap digit (constant_value w false one) in
    let s : digit (literal_true w bit) + 2 * value w xs ≡ value w (take n (bit ∷ xs)) + 2 ^ n * value w (drop n (bit ∷ xs)) =
    value_split w n (bit ∷ xs) (omega (arith, e)) in
    let long : length (take (length xs) (bit ∷ xs)) ≡ n = moved_length Up bit xs ∙ e in
    let same : value w (take (length xs) (bit ∷ xs)) ≡ value w (take n (bit ∷ xs)) = ap (λ k. value w (take k (bit ∷ xs))) e in
    remainder_of (2 ^ n) (value w (drop n (bit ∷ xs))) (value w (take (length xs) (bit ∷ xs))) (value w xs * 2 ^ 1)
    (subst (λ k. value w (take (length xs) (bit ∷ xs)) < 2 ^ k) long (value_below w (take (length xs) (bit ∷ xs)))) (omega (arith, d, s, same))

pub up_means : (f : Formula) (xs ds : List ℤ) → AreShifted f (constant false) xs ds → (w : Valuation) → IsModel w (shifted Up (constant false) 1 f xs ds).state
    → value w (shifted Up (constant false) 1 f xs ds).word ≡ (value w xs * 2 ^ value w ds) % 2 ^ length xs
unfolding times_power
up_means f xs ds o w m =
    let u : 1 * value w ds ≡ value w ds = omega arith in
    measured Up (constant false) w (length xs) number_of (times_power (length xs)) (times_none w (length xs)) (times_more (length xs))
    (times_once w m.one (length xs)) 1 f xs ds o.comes_in o.word o.distance refl m
    ∙ ap (λ k. (value w xs * 2 ^ k) % 2 ^ length xs) u

-- the quotient by a power of 2
unfoldable by_power : ℕ → ℕ → ℕ
by_power d m = m / 2 ^ d

by_more : (a b m : ℕ) → by_power a (by_power b m) ≡ by_power (a + b) m
unfolding by_power
by_more a b m = div-div-eq-div-mul m (2 ^ b) (2 ^ a) ∙ ap (λ k. m / k) (powers a b)

number_end : (ps : List Bool) → number_of (ps ++ false ∷ []) ≡ number_of ps
number_end [] = refl
number_end (p ∷ ps) = ap (λ k. digit p + 2 * k) (number_end ps)

half : (p : Bool) (n : ℕ) → n ≡ (digit p + 2 * n) / 2
half p n = let d : digit p ≤ 1 = digit_small p in omega (arith, d)

halved : (t : Bool) (ps : List Bool) → number_from t (drop 1 (ps ++ t ∷ [])) ≡ number_from t ps / 2
halved true [] = refl
halved false [] = refl
halved false (p ∷ ps) = number_end ps ∙ half p (number_of ps)
halved true (p ∷ ps) = ap number_of (map-append not ps (true ∷ [])) ∙ number_end (map not ps) ∙ half (not p) (number_of (map not ps))

by_once : (w : Valuation) (bit : ℤ) (xs : List ℤ)
    → number_from (literal_true w bit) (values w (shifted_out bit xs)) ≡ by_power 1 (number_from (literal_true w bit) (values w xs))
unfolding by_power
by_once w bit xs =
    ap (number_from (literal_true w bit)) (sym (drop-map (literal_true w) 1 (xs ++ bit ∷ [])) ∙ ap (drop 1) (map-append (literal_true w) xs (bit ∷ [])))
    ∙ halved (literal_true w bit) (values w xs)

pub down_means : (bit : ℤ) (f : Formula) (xs ds : List ℤ) → AreShifted f bit xs ds → (w : Valuation) → IsModel w (shifted Down bit 1 f xs ds).state
    → number_from (literal_true w bit) (values w (shifted Down bit 1 f xs ds).word) ≡ number_from (literal_true w bit) (values w xs) / 2 ^ value w ds
unfolding by_power
down_means bit f xs ds o w m =
    let u : 1 * value w ds ≡ value w ds = omega arith in
    measured Down bit w (length xs) (number_from (literal_true w bit)) by_power (λ ys _. div-one (number_from (literal_true w bit) (values w ys))) by_more
    (λ ys _. by_once w bit ys) 1 f xs ds o.comes_in o.word o.distance refl m
    ∙ ap (λ k. number_from (literal_true w bit) (values w xs) / 2 ^ k) u

-- a word's number by its highest literal
pub top_split : (w : Valuation) (xs : List ℤ) (n : ℕ) → length xs ≡ suc n → value w xs ≡ value w (take n xs) + 2 ^ n * digit (literal_true w (top xs))
top_split w xs n e =
    let x : ℤ = top xs in
    let at : x ≡ get_or xs n x =
    ap (λ k. get_or xs k (constant false)) (omega (arith, e)) ∙ get_or_default xs n (constant false) x (omega (arith, e)) in
    let last : drop n xs ≡ x ∷ [] = split_here xs n x (omega (arith, e)) at ∙ ap (λ k. x ∷ k) (drop_all (n + 1) xs (omega (arith, e))) in
    value_split w n xs (omega (arith, e)) ∙ ap (λ k. value w (take n xs) + 2 ^ n * value w k) last
    ∙ ap (λ k. value w (take n xs) + 2 ^ n * k) (omega arith)

-- the number of the opposite bits
opposite_step : (p : Bool) (u v m : ℕ) → u + v + 1 ≡ 2 ^ m → (digit (not p) + 2 * u) + (digit p + 2 * v) + 1 ≡ 2 ^ suc m
opposite_step true u v m h = let e : 2 ^ suc m ≡ 2 ^ m * 2 = pow-suc 2 m in omega (arith, h, e)
opposite_step false u v m h = let e : 2 ^ suc m ≡ 2 ^ m * 2 = pow-suc 2 m in omega (arith, h, e)

pub opposite_number : (ps : List Bool) → number_of (map not ps) + number_of ps + 1 ≡ 2 ^ length ps
opposite_number [] = refl
opposite_number (p ∷ ps) = opposite_step p (number_of (map not ps)) (number_of ps) (length ps) (opposite_number ps)

-- an int, its 32 bits, and the bits shifted down
right_of : (z : ℤ) → FitsSigned w32 z → (t : Bool) (low d : ℕ) (ps qs : List Bool) → length ps ≡ 32 → length qs ≡ 32 → number_of ps ≡ cast_unsigned w32 z
    → number_of ps ≡ low + 2 ^ 31 * digit t → low < 2 ^ 31 → number_from t qs ≡ number_from t ps / 2 ^ d
    → cast_signed w32 (number_of qs) ≡ int_div_euclid z (pos (2 ^ d))
right_of (pos n) fits true low d ps qs lp lq e s small h = absurd (omega (arith, fits, e, s, small))
right_of (pos n) fits false low d ps qs lp lq e s small h =
    ap (cast_signed w32) (h ∙ ap (λ k. k / 2 ^ d) e) ∙ to_z_pos w32 (n / 2 ^ d) (omega (arith, fits, div-le_self n (2 ^ d)))
right_of (negsuc n) fits false low d ps qs lp lq e s small h = absurd (omega (arith, fits, e, s, small))
right_of (negsuc n) fits true low d ps qs lp lq e s small h =
    let a : number_of (map not ps) ≡ n = omega (arith, fits, e, opposite_number ps ∙ ap (λ k. 2 ^ k) lp) in
    let b : number_of (map not qs) ≡ n / 2 ^ d = h ∙ ap (λ k. k / 2 ^ d) a in
    let few : n / 2 ^ d ≤ n = div-le_self n (2 ^ d) in
    let c : number_of qs ≡ 2 ^ 32 - suc (n / 2 ^ d) = omega (arith, fits, b, few, opposite_number qs ∙ ap (λ k. 2 ^ k) lq) in
    ap (cast_signed w32) c ∙ to_z-neg w32 (n / 2 ^ d) (omega (arith, fits, few))

distance_of : (d : ℕ) → d ≤ 31 → is_distance (pos d) ≡ true
distance_of d h = grind (arith, h)

-- the int of a word of 32 bits, and its bits
pub below_32 : (w : Valuation) (xs : List ℤ) → length xs ≡ 32 → value w xs < 2 ^ 32
below_32 w xs e = subst (λ k. value w xs < 2 ^ k) e (value_below w xs)

pub fits_32 : (w : Valuation) (xs : List ℤ) → length xs ≡ 32 → FitsSigned w32 (int_value w xs)
fits_32 w xs e = to_z-Fits w32 (value w xs) (record { fits = below_32 w xs e })

pub bits_32 : (w : Valuation) (xs : List ℤ) → length xs ≡ 32 → cast_unsigned w32 (int_value w xs) ≡ value w xs
bits_32 w xs e = of_z-to_z w32 (value w xs) (below_32 w xs e)

as_int : (n : ℕ) → n < 2 ^ 32 → cast_signed w32 n ≡ int_wrap w32 (pos n)
unfolding int_wrap
as_int n below = ap (cast_signed w32) (omega (arith, below))

left_of : (z : ℤ) (d : ℕ) → FitsSigned w32 z → d ≤ 31 → cast_signed w32 ((cast_unsigned w32 z * 2 ^ d) % 2 ^ 32) ≡ shifted_left z (pos d)
left_of z d fits within =
    let small : 2 ^ d < 2 ^ 32 = pow_below d 32 (omega (arith, within)) in
    wrapping_mul-bits w32 (cast_unsigned w32 z) (2 ^ d) (unsigned-below z fits) small
    ∙ ap (λ k. int_wrap w32 (k *ℤ cast_signed w32 (2 ^ d))) (to_z-of_z w32 z fits)
    ∙ ap (λ k. int_wrap w32 (z *ℤ k)) (as_int (2 ^ d) small)
    ∙ int_wrap-mul_right w32 z (pos (2 ^ d))
    ∙ ap (λ p. if p then times z (pos (2 ^ d)) else pos 0) (sym (distance_of d within))

pub left_32 : (f : Formula) (xs ds : List ℤ) → AreShifted f (constant false) xs ds → length xs ≡ 32
    → (w : Valuation) → IsModel w (shifted Up (constant false) 1 f xs ds).state → value w ds ≤ 31
    → int_value w (shifted Up (constant false) 1 f xs ds).word ≡ shifted_left (int_value w xs) (pos (value w ds))
left_32 f xs ds o e w m within =
    ap (cast_signed w32) (up_means f xs ds o w m ∙ ap (λ k. (value w xs * 2 ^ value w ds) % 2 ^ k) e)
    ∙ ap (λ k. cast_signed w32 ((k * 2 ^ value w ds) % 2 ^ 32)) (sym (bits_32 w xs e))
    ∙ left_of (int_value w xs) (value w ds) (fits_32 w xs e) within

pub right_32 : (f : Formula) (xs ds : List ℤ) → AreShifted f (top xs) xs ds → length xs ≡ 32
    → (w : Valuation) → IsModel w (shifted Down (top xs) 1 f xs ds).state → value w ds ≤ 31
    → int_value w (shifted Down (top xs) 1 f xs ds).word ≡ shifted_right (int_value w xs) (pos (value w ds))
right_32 f xs ds o e w m within =
    let out : List ℤ = (shifted Down (top xs) 1 f xs ds).word in
    let d : ℕ = value w ds in
    let h = shifted_word Down (top xs) 1 f xs ds o.comes_in o.word o.distance in
    let is : is_distance (pos d) ≡ true = distance_of d within in
    right_of (int_value w xs) (fits_32 w xs e) (literal_true w (top xs)) (value w (take 31 xs)) d (values w xs) (values w out)
    (length-map xs (literal_true w) ∙ e) (length-map out (literal_true w) ∙ h.same_length ∙ e) (sym (bits_32 w xs e))
    (top_split w xs 31 e) (subst (λ k. value w (take 31 xs) < 2 ^ k) (front_length xs e) (value_below w (take 31 xs)))
    (down_means (top xs) f xs ds o w m)
    ∙ ap (λ k. if k then int_div_euclid (int_value w xs) (pos (2 ^ d)) else pos 0) (sym is)
  where
    front_length : (ls : List ℤ) → length ls ≡ 32 → length (take 31 ls) ≡ 31
    front_length ls h = length-take 31 ls ∙ omega (arith, h)

pub shifts-mean : ShiftsMean
shifts-mean = record {
  word = λ to bit f xs ds o. shifted_word to bit 1 f xs ds o.comes_in o.word o.distance;
  up = up_means;
  down = down_means;
  left = left_32;
  right = right_32;
}
