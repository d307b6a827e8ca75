-- The meaning of a division.
use Rattle.std.proofs.Common.{◌≡◌, ℕ, suc, zero, ◌+◌, ◌*◌, ◌^◌, ◌<◌, ◌≤◌, List, [], ◌∷◌, ℤ, neg_ℤ, refl, ap, sym, ◌∙◌, subst, arith, Bool, true, false, length, drop}
use Rattle.std.specs.Prelude.{if◌then◌else◌}
use Rattle.std.specs.List.{All}
use Rattle.std.proofs.Math.Nat.{mul-zero, mul-one, zero-mul, one-mul, mul-suc, add-mul, mul_assoc}
use Rattle.std.proofs.lemmas.List.{length-take, length-map, length-replicate}
use Rattle.std.proofs.lemmas.List.Elements.{All-nil, All-cons, All-head, All-tail, All-take, All-replicate}
use Rattle.cnf_core.specs.Clauses.{Formula, Valuation, literal_true}
use Rattle.bit_gates.specs.Folded.{Made, constant}
use Rattle.bit_gates.specs.Laws.{IsGrown, IsModel, IsOf}
use Rattle.bit_gates.proofs.Blocks.{grown_none, grown_twice, IsOf-grown, model_before}
use Rattle.bit_gates.proofs.Meaning.{constant_of, constant_value}
use Rattle.bit_words.specs.Words.{Walked, word_sum, chosen_words, inverted_word}
use Rattle.bit_words.specs.Laws.{values, digit, number_of, value, at_places}
use Rattle.bit_words.proofs.Meaning.{all_grown, chosen_words_mean, words-mean, invert_means}
use Rattle.bit_shift.specs.bit_arith.Sums.{zeros}
use Rattle.bit_shift.proofs.bit_arith.Meaning.{all_inverted}
use Rattle.bit_shift.proofs.bit_arith.Values.{value_below, value_split, value_zeros, digit_small}
use Rattle.bit_shift.specs.Shifts.{shifted_in}
use Rattle.bit_shift.proofs.Meaning.{chosen_values}
use Rattle.bit_divide.specs.Quotients.{Divided, divided_place, divided}
use Rattle.bit_divide.specs.Laws.{DivisionMeans}

chosen_value : (c : Bool) (ps qs : List Bool) → length qs ≡ length ps
    → number_of (at_places (λ p q. if c then p else q) ps qs) ≡ (if c then number_of ps else number_of qs)
chosen_value true ps qs e = ap number_of (chosen_values true ps qs e)
chosen_value false ps qs e = ap number_of (chosen_values false ps qs e)

-- doubling the remainder loses no bit
no_top : (p next t low : ℕ) → next + p * t ≡ low → low < p → next ≡ low
no_top p next zero low e h = let z : p * 0 ≡ 0 = mul-zero p in omega (arith, e, z)
no_top p next (suc t) low e h = let z : p * suc t ≡ p * t + p = mul-suc p t in absurd (omega (arith, e, z, h))

place_number : (c : Bool) (p next t b r d less opposite out : ℕ) → b ≤ 1 → next + p * t ≡ b + 2 * r → r < d → 2 * d ≤ p → opposite + d + 1 ≡ p
    → less + p * digit c ≡ next + opposite + 1 → less < p → out ≡ (if c then less else next) → (b + 2 * r ≡ digit c * d + out) × (out < d)
place_number true p next t b r d less opposite out small e below half o s fits k =
    let n : next ≡ b + 2 * r = no_top p next t (b + 2 * r) e (omega (arith, small, below, half)) in
    let m : p * 1 ≡ p = mul-one p in
    let u : 1 * d ≡ d = one-mul d in
    (omega (arith, n, m, u, o, s, k), omega (arith, n, m, o, s, k, below, small))
place_number false p next t b r d less opposite out small e below half o s fits k =
    let n : next ≡ b + 2 * r = no_top p next t (b + 2 * r) e (omega (arith, small, below, half)) in
    let m : p * 0 ≡ 0 = mul-zero p in
    let u : 0 * d ≡ 0 = zero-mul d in
    (omega (arith, n, m, u, o, s, k), omega (arith, n, m, o, s, k, fits))

record IsPlace (f : Formula) (rest : List ℤ) (bit : ℤ) (opposite : List ℤ) (m : Walked Made) : Type 0 where
  grown : IsGrown f m.state.formula
  remainder : All (IsOf m.state.formula.vars) m.word
  same_length : length m.word ≡ length rest
  quotient : IsOf m.state.formula.vars m.state.literal
  number : (w : Valuation) → IsModel w m.state.formula → (d : ℕ) → value w opposite + d + 1 ≡ 2 ^ length rest → value w rest < d
      → 2 * d ≤ 2 ^ length rest
      → (digit (literal_true w bit) + 2 * value w rest ≡ digit (literal_true w m.state.literal) * d + value w m.word) × (value w m.word < d)

place_means : (f : Formula) (rest : List ℤ) (bit : ℤ) (opposite : List ℤ) → All (IsOf f.vars) rest → IsOf f.vars bit
    → All (IsOf f.vars) opposite → length opposite ≡ length rest → IsPlace f rest bit opposite (divided_place f rest bit opposite)
place_means f rest bit opposite r b o e =
    let one : 0 < f.vars = omega (arith, b.0, b.1) in
    let n : ℕ = length rest in
    let next : List ℤ = shifted_in bit rest in
    let next_of : All (IsOf f.vars) next = All-take (IsOf f.vars) n (bit ∷ rest) (All-cons (IsOf f.vars) bit rest b r) in
    let long : length next ≡ n = length-take n (bit ∷ rest) ∙ omega arith in
    let less : Walked Made = word_sum f next opposite (constant true) in
    let g : Formula = less.state.formula in
    let c : ℤ = less.state.literal in
    let h = words-mean.add f next opposite (constant true) next_of o (constant_of f.vars true one) (e ∙ sym long) in
    let kept : Walked _ = chosen_words c g less.word next in
    let same : length next ≡ length less.word = sym h.word.same_length in
    let k = chosen_words_mean c g less.word next h.out h.word.literals (all_grown f g next h.word.grown next_of) same in
    record {
      grown = grown_twice f g kept.state h.word.grown k.word.grown;
      remainder = k.word.literals;
      same_length = k.word.same_length ∙ h.word.same_length ∙ long;
      quotient = IsOf-grown g kept.state c k.word.grown h.out;
      number = λ w m d below fits half.
          let v : literal_true w (constant true) ≡ true = constant_value w true m.one in
          let s : value w less.word + 2 ^ n * digit (literal_true w c) ≡ value w next + value w opposite + 1 =
          ap (λ i. value w less.word + 2 ^ i * digit (literal_true w c)) (sym long) ∙ h.sum w (model_before w g kept.state k.word.grown m)
          ∙ ap (λ i. value w next + value w opposite + digit i) v in
          let out : value w kept.word ≡ (if literal_true w c then value w less.word else value w next) =
          ap number_of (k.places w m) ∙ chosen_value (literal_true w c) (values w less.word) (values w next)
          (length-map next (literal_true w) ∙ same ∙ sym (length-map less.word (literal_true w))) in
          place_number (literal_true w c) (2 ^ n) (value w next) (value w (drop n (bit ∷ rest))) (digit (literal_true w bit)) (value w rest) d
          (value w less.word) (value w opposite) (value w kept.word) (digit_small (literal_true w bit))
          (sym (value_split w n (bit ∷ rest) (omega arith))) fits half below s
          (subst (λ i. value w less.word < 2 ^ i) (h.word.same_length ∙ long) (value_below w less.word)) out;
    }

twice_more : (q u d x r s b : ℕ) → x ≡ u * d + r → b + 2 * r ≡ q * d + s → b + 2 * x ≡ (q + 2 * u) * d + s
twice_more q u d x r s b e h =
    let a : (q + 2 * u) * d ≡ q * d + 2 * u * d = add-mul q (2 * u) d in
    let c : 2 * u * d ≡ 2 * (u * d) = mul_assoc 2 u d in
    omega (arith, a, c, e, h)

record IsDivided (f : Formula) (rest opposite xs : List ℤ) (m : Divided) : Type 0 where
  grown : IsGrown f m.formula
  quotient : All (IsOf m.formula.vars) m.quotient
  quotient_length : length m.quotient ≡ length xs
  remainder : All (IsOf m.formula.vars) m.remainder
  remainder_length : length m.remainder ≡ length rest
  number : (w : Valuation) → IsModel w m.formula → (d : ℕ) → value w opposite + d + 1 ≡ 2 ^ length rest → 0 < d → 2 * d ≤ 2 ^ length rest
      → (value w xs ≡ value w m.quotient * d + value w m.remainder) × (value w m.remainder < d)

divided_means : (f : Formula) (rest opposite xs : List ℤ) → All (IsOf f.vars) rest → All (IsOf f.vars) opposite → All (IsOf f.vars) xs
    → length opposite ≡ length rest → ((w : Valuation) → w 1 ≡ true → value w rest ≡ 0) → IsDivided f rest opposite xs (divided f rest opposite xs)
divided_means f rest opposite [] r o p e none = record {
  grown = grown_none f;
  quotient = All-nil (IsOf f.vars);
  quotient_length = refl;
  remainder = r;
  remainder_length = refl;
  number = λ w m d below fits half. let z : value w rest ≡ 0 = none w m.one in let y : 0 * d ≡ 0 = zero-mul d in (omega (arith, z, y), omega (arith, z, fits));
}
divided_means f rest opposite (x ∷ xs) r o p e none =
    let high : Divided = divided f rest opposite xs in
    let h = divided_means f rest opposite xs r o (All-tail (IsOf f.vars) x xs p) e none in
    let g : Formula = high.formula in
    let here : Walked Made = divided_place g high.remainder x opposite in
    let k = place_means g high.remainder x opposite h.remainder (IsOf-grown f g x h.grown (All-head (IsOf f.vars) x xs p))
    (all_grown f g opposite h.grown o) (e ∙ sym h.remainder_length) in
    let last : Formula = here.state.formula in
    record {
      grown = grown_twice f g last h.grown k.grown;
      quotient = All-cons (IsOf last.vars) here.state.literal high.quotient k.quotient (all_grown g last high.quotient k.grown h.quotient);
      quotient_length = ap suc h.quotient_length;
      remainder = k.remainder;
      remainder_length = k.same_length ∙ h.remainder_length;
      number = λ w m d below fits half.
          let a = h.number w (model_before w g last k.grown m) d below fits half in
          let c = k.number w m d (subst (λ i. value w opposite + d + 1 ≡ 2 ^ i) (sym h.remainder_length) below) a.1
          (subst (λ i. 2 * d ≤ 2 ^ i) (sym h.remainder_length) half) in (
            twice_more (digit (literal_true w here.state.literal)) (value w high.quotient) d (value w xs) (value w high.remainder) (value w here.word)
                (digit (literal_true w x)) a.0 c.0,
            c.1,
          );
    }

pub division-means : DivisionMeans
division-means f xs ds one p q =
    let rest : List ℤ = zeros (length ds) in
    let long : length rest ≡ length ds = length-replicate (length ds) (constant false) in
    let h = divided_means f rest (inverted_word ds) xs (All-replicate (IsOf f.vars) (length ds) (constant false) (constant_of f.vars false one))
    (all_inverted f.vars ds q) p (length-map ds neg_ℤ ∙ sym long)
    (λ w o. value_zeros w (length ds) (constant_value w false o)) in
    record {
      grown = h.grown;
      quotient = h.quotient;
      quotient_length = h.quotient_length;
      remainder = h.remainder;
      remainder_length = h.remainder_length ∙ long;
      number = λ w m fits half. h.number w m (value w ds) (invert_means w f.vars ds q ∙ ap (λ i. 2 ^ i) (sym long)) fits
          (subst (λ i. 2 * value w ds ≤ 2 ^ i) (sym long) half);
    }
