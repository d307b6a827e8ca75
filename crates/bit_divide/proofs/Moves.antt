-- The places of a division.
use Rattle.std.proofs.Common.{◌≡◌, ℕ, suc, zero, ◌+◌, ◌-◌, ◌*◌, ◌<◌, ◌≤◌, List, [], ◌∷◌, ◌++◌, ℤ, refl, ap, sym, ◌∙◌, arith, length, take, drop, set, get_or, length-set}
use Rattle.std.proofs.lemmas.List.{get_or-take, get_or-set_same, take-set}
use Rattle.std.proofs.Math.Nat.{mul-add, mul-one}
use Rattle.cnf_core.specs.Clauses.{Formula}
use Rattle.bit_gates.specs.Folded.{Made, IsLarger}
use Rattle.bit_words.specs.Words.{Walked}
use Rattle.bit_words.proofs.Loops.{split_here, drop_here}
use Rattle.bit_divide.specs.Quotients.{Divided, divided_place, divided}

take_less : (j : ℕ) (xs : List ℤ) → take j (take (j + 1) xs) ≡ take j xs
take_less j xs = ap (λ k. take j (take k xs)) (let n : j + 1 ≡ suc j = omega arith in n) ∙ less j xs
  where
    less : (k : ℕ) (zs : List ℤ) → take k (take (suc k) zs) ≡ take k zs
    less zero zs = refl
    less (suc k) [] = refl
    less (suc k) (z ∷ zs) = ap (λ r. z ∷ r) (less k zs)

-- the state of a division after the places from `i` on
pub record IsDividedTo (f : Formula) (rest opposite old : List ℤ) (i : ℕ) (g : Formula) (now word : List ℤ) : Type 0 where
  pub formula : g ≡ (divided f rest opposite (drop i old)).formula
  pub remainder : now ≡ (divided f rest opposite (drop i old)).remainder
  pub quotient : drop i word ≡ (divided f rest opposite (drop i old)).quotient
  pub front : take i word ≡ take i old

pub divided_more : (f : Formula) (rest opposite old : List ℤ) (i j : ℕ) (g h : Formula) (now next word : List ℤ) (x q : ℤ)
    → IsDividedTo f rest opposite old i g now word → i ≡ j + 1 → i ≤ length old → length word ≡ length old → x ≡ get_or word j x
    → h ≡ (divided_place g now x opposite).state.formula → next ≡ (divided_place g now x opposite).word
    → q ≡ (divided_place g now x opposite).state.literal → IsDividedTo f rest opposite old j h next (set word j q)
divided_more f rest opposite old i j g h now next word x q d e le long ex eh en eq =
    let front : take (j + 1) word ≡ take (j + 1) old = ap (λ k. take k word) (sym e) ∙ d.front ∙ ap (λ k. take k old) e in
    let here : x ≡ get_or old j x =
    ex ∙ sym (get_or-take (j + 1) word j x (omega arith)) ∙ ap (λ k. get_or k j x) front ∙ get_or-take (j + 1) old j x (omega arith) in
    let split : drop j old ≡ x ∷ drop i old = split_here old j x (omega (arith, e, le)) here ∙ ap (λ k. x ∷ drop k old) (sym e) in
    let high : Divided = divided f rest opposite (drop i old) in
    let made : Walked Made = divided_place high.formula high.remainder x opposite in
    let same : divided_place g now x opposite ≡ made =
    ap (λ k. divided_place k now x opposite) d.formula ∙ ap (λ k. divided_place high.formula k x opposite) d.remainder in
    let whole : divided f rest opposite (drop j old)
    ≡ record { formula = made.state.formula; remainder = made.word; quotient = made.state.literal ∷ high.quotient } =
    ap (divided f rest opposite) split in
    let mine : q ≡ get_or (set word j q) j q = sym (get_or-set_same word j q q (omega (arith, e, le, long))) in
    let after : drop j (set word j q) ≡ q ∷ drop i word =
    split_here (set word j q) j q (omega (arith, e, le, long, length-set word j q)) mine ∙ ap (λ k. q ∷ k) (drop_here word j q)
    ∙ ap (λ k. q ∷ drop k word) (sym e) in
    record {
      formula = eh ∙ ap (λ (k : Walked Made). k.state.formula) same ∙ ap (λ (k : Divided). k.formula) (sym whole);
      remainder = en ∙ ap (λ (k : Walked Made). k.word) same ∙ ap (λ (k : Divided). k.remainder) (sym whole);
      quotient = after ∙ ap (λ k. k ∷ drop i word) (eq ∙ ap (λ (k : Walked Made). k.state.literal) same)
          ∙ ap (λ k. made.state.literal ∷ k) d.quotient ∙ ap (λ (k : Divided). k.quotient) (sym whole);
      front = take-set word j q ∙ sym (take_less j word) ∙ ap (take j) front ∙ take_less j old;
    }

pub larger_place : (w n i j : ℕ) (f g h : Formula) → IsLarger (26 * (w * (n - i))) f g → IsLarger (26 * w) g h → i ≡ j + 1 → i ≤ n
    → IsLarger (26 * (w * (n - j))) f h
larger_place w n i j f g h p q e le =
    let s : n - j ≡ (n - i) + 1 = omega (arith, e, le) in
    let m : w * (n - j) ≡ w * (n - i) + w = ap (λ k. w * k) s ∙ mul-add w (n - i) 1 ∙ ap (λ k. w * (n - i) + k) (mul-one w) in
    (omega (arith, p.0, q.0), omega (arith, p.1, q.1, m), omega (arith, p.2, q.2, m))
