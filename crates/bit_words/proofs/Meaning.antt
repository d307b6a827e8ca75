-- The meaning of the circuits over words.
use Rattle.std.proofs.Common.{◌≡◌, ℕ, suc, ◌≤◌, ◌+◌, ◌*◌, ◌^◌, List, [], ◌∷◌, ℤ, neg_ℤ, refl, ap, ◌∙◌, arith, Bool, true, false, not, length}
use Rattle.std.specs.Prelude.{◌&&◌, ◌||◌, if◌then◌else◌, nat_lt, nat_le}
use Rattle.std.specs.List.{All, list_any}
use Rattle.std.proofs.Math.Nat.{pow-suc, mul_assoc, mul_comm}
use Rattle.std.proofs.lemmas.Bool.Decides.{nat_tests}
use Rattle.std.proofs.lemmas.List.Elements.{All-nil, All-cons, All-head, All-tail, All-weaker}
use Rattle.cnf_core.specs.Clauses.{var_of, Formula, Valuation, literal_true}
use Rattle.cnf_core.specs.Gates.{gate_value}
use Rattle.cnf_core.specs.declared.gates.Gate.{Gate}
use Rattle.cnf_core.proofs.GateLaws.{literal_true-neg}
use Rattle.bit_gates.specs.Folded.{Made, kept, conjunction, disjunction, differing, folded_gate, conditional}
use Rattle.bit_gates.specs.Laws.{IsGrown, IsModel, IsOf, IsBit}
use Rattle.bit_gates.proofs.Blocks.{grown_none, grown_more, grown_twice, IsOf-grown, IsOf-opposite, model_before}
use Rattle.bit_gates.proofs.Meaning.{both_bit, either_bit, differing_bit, folded_bit, chosen_bit}
use Rattle.bit_words.specs.Words.{Placed, Walked, along, made_place, gated_words, chosen_words, added_place, inverted_word, compared_place, less_literal, any_of}
use Rattle.bit_words.specs.Laws.{values, digit, value, IsPlaced, IsSum, WordsMean}

-- literals of a formula are literals of a formula that it has grown to
pub all_grown : (f g : Formula) (xs : List ℤ) → IsGrown f g → All (IsOf f.vars) xs → All (IsOf g.vars) xs
all_grown f g xs h a = All-weaker (IsOf f.vars) (IsOf g.vars) (λ l o. IsOf-grown f g l h o) xs a

-- a circuit that makes one bit for each place
module _ (step : Formula → ℤ → ℤ → Made) (least : ℕ) (op : Valuation → Bool → Bool → Bool)
    (bit : (f : Formula) (a b : ℤ) → least ≤ f.vars → IsOf f.vars a → IsOf f.vars b → IsBit f (step f a b) (λ w. op w (literal_true w a) (literal_true w b)))
  where
    placed : (f : Formula) (xs ys : List ℤ) → least ≤ f.vars → All (IsOf f.vars) xs → All (IsOf f.vars) ys → length ys ≡ length xs
        → IsPlaced f xs ys (along (λ h a b. made_place (step h a b)) f xs ys) op
    placed f [] ys n p q e = record {
      word = record { grown = grown_none f; literals = All-nil (IsOf f.vars); same_length = refl };
      places = λ w m. refl;
    }
    placed f (x ∷ xs) [] n p q e = absurd (omega (arith, e))
    placed f (x ∷ xs) (y ∷ ys) n p q e =
        let here : Made = step f x y in
        let h = bit f x y n (All-head (IsOf f.vars) x xs p) (All-head (IsOf f.vars) y ys q) in
        let more : f.vars ≤ here.formula.vars = grown_more f here.formula h.grown in
        let rest : Walked Formula = along (λ h a b. made_place (step h a b)) here.formula xs ys in
        let r = placed here.formula xs ys (omega (arith, n, more)) (all_grown f here.formula xs h.grown (All-tail (IsOf f.vars) x xs p))
        (all_grown f here.formula ys h.grown (All-tail (IsOf f.vars) y ys q)) (omega (arith, e)) in
        record {
          word = record {
            grown = grown_twice f here.formula rest.state h.grown r.word.grown;
            literals = All-cons (IsOf rest.state.vars) here.literal rest.word (IsOf-grown here.formula rest.state here.literal r.word.grown h.literal) r.word.literals;
            same_length = ap suc r.word.same_length;
          };
          places = λ w m. let v : literal_true w here.literal ≡ op w (literal_true w x) (literal_true w y) =
              h.value w (model_before w here.formula rest.state r.word.grown m) in
              ap (λ k. k ∷ values w rest.word) v ∙ ap (λ ks. op w (literal_true w x) (literal_true w y) ∷ ks) (r.places w m);
        }

pub gated_words_mean : (g : Gate) (f : Formula) (xs ys : List ℤ) → All (IsOf f.vars) xs → All (IsOf f.vars) ys → length ys ≡ length xs
    → IsPlaced f xs ys (gated_words g f xs ys) (λ _. gate_value g)
gated_words_mean g f xs ys p q e = placed (folded_gate g) 0 (λ _. gate_value g) (λ h a b k x y. folded_bit g h a b x y) f xs ys (omega arith) p q e

pub chosen_words_mean : (c : ℤ) (f : Formula) (xs ys : List ℤ) → IsOf f.vars c → All (IsOf f.vars) xs → All (IsOf f.vars) ys
    → length ys ≡ length xs → IsPlaced f xs ys (chosen_words c f xs ys) (λ w p q. if literal_true w c then p else q)
chosen_words_mean c f xs ys o p q e =
    placed (λ h a b. conditional h c a b) (var_of c) (λ w p q. if literal_true w c then p else q)
    (λ h a b k x y. chosen_bit h c a b (o.0, k) x y) f xs ys o.1 p q e

-- one place of an adder
pub record IsAdded (carry : Made) (a b : ℤ) (m : Placed Made) : Type 0 where
  pub grown : IsGrown carry.formula m.state.formula
  pub sum : IsOf m.state.formula.vars m.literal
  pub out : IsOf m.state.formula.vars m.state.literal
  pub digits : (w : Valuation) → IsModel w m.state.formula
      → digit (literal_true w m.literal) + 2 * digit (literal_true w m.state.literal)
      ≡ digit (literal_true w a) + digit (literal_true w b) + digit (literal_true w carry.literal)

full_adder : (p q r s t u v k : Bool) → u ≡ (if p then not q else q) → s ≡ (if u then not r else r) → t ≡ (p && q) → v ≡ (u && r) → k ≡ (t || v)
    → digit s + 2 * digit k ≡ digit p + digit q + digit r
full_adder true true true s t u v k hu hs ht hv hk = grind arith
full_adder true true false s t u v k hu hs ht hv hk = grind arith
full_adder true false true s t u v k hu hs ht hv hk = grind arith
full_adder true false false s t u v k hu hs ht hv hk = grind arith
full_adder false true true s t u v k hu hs ht hv hk = grind arith
full_adder false true false s t u v k hu hs ht hv hk = grind arith
full_adder false false true s t u v k hu hs ht hv hk = grind arith
full_adder false false false s t u v k hu hs ht hv hk = grind arith

pub added_place_means : (carry : Made) (a b : ℤ) → IsOf carry.formula.vars carry.literal → IsOf carry.formula.vars a
    → IsOf carry.formula.vars b → IsAdded carry a b (added_place carry a b)
added_place_means carry a b o p q =
    let f : Formula = carry.formula in
    let c : ℤ = carry.literal in
    let half : Made = differing f a b in
    let h1 = differing_bit f a b p q in
    let g1 : IsGrown f half.formula = h1.grown in
    let sum : Made = differing half.formula half.literal c in
    let h2 = differing_bit half.formula half.literal c h1.literal (IsOf-grown f half.formula c g1 o) in
    let g2 : IsGrown f sum.formula = grown_twice f half.formula sum.formula g1 h2.grown in
    let two : Made = conjunction sum.formula a b in
    let h3 = both_bit sum.formula a b (IsOf-grown f sum.formula a g2 p) (IsOf-grown f sum.formula b g2 q) in
    let g3 : IsGrown f two.formula = grown_twice f sum.formula two.formula g2 h3.grown in
    let k3 : IsGrown half.formula two.formula = grown_twice half.formula sum.formula two.formula h2.grown h3.grown in
    let one : Made = conjunction two.formula half.literal c in
    let h4 = both_bit two.formula half.literal c (IsOf-grown half.formula two.formula half.literal k3 h1.literal)
    (IsOf-grown f two.formula c g3 o) in
    let out : Made = disjunction one.formula two.literal one.literal in
    let h5 = either_bit one.formula two.literal one.literal (IsOf-grown two.formula one.formula two.literal h4.grown h3.literal) h4.literal in
    let k4 : IsGrown two.formula out.formula = grown_twice two.formula one.formula out.formula h4.grown h5.grown in
    let k2 : IsGrown sum.formula out.formula = grown_twice sum.formula two.formula out.formula h3.grown k4 in
    let k1 : IsGrown half.formula out.formula = grown_twice half.formula sum.formula out.formula h2.grown k2 in
    record {
      grown = grown_twice f half.formula out.formula g1 k1;
      sum = IsOf-grown sum.formula out.formula sum.literal k2 h2.literal;
      out = h5.literal;
      digits = λ w m. full_adder (literal_true w a) (literal_true w b) (literal_true w c) (literal_true w sum.literal) (literal_true w two.literal)
          (literal_true w half.literal) (literal_true w one.literal) (literal_true w out.literal)
          (h1.value w (model_before w half.formula out.formula k1 m))
          (h2.value w (model_before w sum.formula out.formula k2 m))
          (h3.value w (model_before w two.formula out.formula k4 m))
          (h4.value w (model_before w one.formula out.formula h5.grown m))
          (h5.value w m);
    }

-- the sums of the lower and the higher places together
sum_of : (n s r k o x y c u v : ℕ) → s + 2 * k ≡ x + y + c → r + 2 ^ n * o ≡ u + v + k → (s + 2 * r) + 2 ^ suc n * o ≡ (x + 2 * u) + (y + 2 * v) + c
sum_of n s r k o x y c u v h e =
    let p : 2 ^ suc n ≡ 2 ^ n * 2 = pow-suc 2 n in
    let t : 2 ^ suc n * o ≡ 2 * (2 ^ n * o) = ap (λ z. z * o) (p ∙ mul_comm (2 ^ n) 2) ∙ mul_assoc 2 (2 ^ n) o in
    omega (arith, t, h, e)

pub added_along : (carry : Made) (xs ys : List ℤ) → IsOf carry.formula.vars carry.literal → All (IsOf carry.formula.vars) xs
    → All (IsOf carry.formula.vars) ys → length ys ≡ length xs → IsSum carry.formula xs ys (along added_place carry xs ys) carry.literal
added_along carry [] [] o p q e = record {
  word = record { grown = grown_none carry.formula; literals = All-nil (IsOf carry.formula.vars); same_length = refl };
  out = o;
  sum = λ w m. omega arith;
}
added_along carry [] (y ∷ ys) o p q e = absurd (omega (arith, e))
added_along carry (x ∷ xs) [] o p q e = absurd (omega (arith, e))
added_along carry (x ∷ xs) (y ∷ ys) o p q e =
    let f : Formula = carry.formula in
    let here : Placed Made = added_place carry x y in
    let g : Formula = here.state.formula in
    let h = added_place_means carry x y o (All-head (IsOf f.vars) x xs p) (All-head (IsOf f.vars) y ys q) in
    let rest : Walked Made = along added_place here.state xs ys in
    let r = added_along here.state xs ys h.out (all_grown f g xs h.grown (All-tail (IsOf f.vars) x xs p))
    (all_grown f g ys h.grown (All-tail (IsOf f.vars) y ys q)) (omega (arith, e)) in
    record {
      word = record {
        grown = grown_twice f g rest.state.formula h.grown r.word.grown;
        literals = All-cons (IsOf rest.state.formula.vars) here.literal rest.word (IsOf-grown g rest.state.formula here.literal r.word.grown h.sum) r.word.literals;
        same_length = ap suc r.word.same_length;
      };
      out = r.out;
      sum = λ w m. sum_of (length xs) _ _ (digit (literal_true w here.state.literal)) _ _ _ _ _ _
          (h.digits w (model_before w g rest.state.formula r.word.grown m)) (r.sum w m);
    }

invert_step : (n v u : ℕ) (p q : Bool) → q ≡ not p → v + u + 1 ≡ 2 ^ n → (digit q + 2 * v) + (digit p + 2 * u) + 1 ≡ 2 ^ suc n
invert_step n v u true false h e = let p : 2 ^ suc n ≡ 2 ^ n * 2 = pow-suc 2 n in omega (arith, p, e)
invert_step n v u false true h e = let p : 2 ^ suc n ≡ 2 ^ n * 2 = pow-suc 2 n in omega (arith, p, e)
invert_step n v u true true h e = absurd (cc)
invert_step n v u false false h e = absurd (cc)

pub invert_means : (w : Valuation) (n : ℕ) (xs : List ℤ) → All (IsOf n) xs → value w (inverted_word xs) + value w xs + 1 ≡ 2 ^ length xs
invert_means w n [] h = refl
invert_means w n (x ∷ xs) h =
    invert_step (length xs) (value w (inverted_word xs)) (value w xs) (literal_true w x) (literal_true w (neg_ℤ x))
    (literal_true-neg w x (All-head (IsOf n) x xs h).0) (invert_means w n xs (All-tail (IsOf n) x xs h))

compare_values : (p q l : Bool) (x y : ℕ) →
    (if ((not p && q) || (l && (not p || q))) then nat_le x y else nat_lt x y)
    ≡ (if l then nat_le (digit p + 2 * x) (digit q + 2 * y) else nat_lt (digit p + 2 * x) (digit q + 2 * y))
compare_values true true true x y = grind (arith, nat_tests)
compare_values true true false x y = grind (arith, nat_tests)
compare_values true false true x y = grind (arith, nat_tests)
compare_values true false false x y = grind (arith, nat_tests)
compare_values false true true x y = grind (arith, nat_tests)
compare_values false true false x y = grind (arith, nat_tests)
compare_values false false true x y = grind (arith, nat_tests)
compare_values false false false x y = grind (arith, nat_tests)

pub compared_place_bit : (low : Made) (a b : ℤ) → IsOf low.formula.vars low.literal → IsOf low.formula.vars a → IsOf low.formula.vars b
    → IsBit low.formula (compared_place low a b)
    (λ w. (not (literal_true w a) && literal_true w b) || (literal_true w low.literal && (not (literal_true w a) || literal_true w b)))
compared_place_bit low a b o p q =
    let f : Formula = low.formula in
    let above : Made = conjunction f (neg_ℤ a) b in
    let h1 = both_bit f (neg_ℤ a) b (IsOf-opposite f.vars a p) q in
    let g1 : IsGrown f above.formula = h1.grown in
    let upto : Made = disjunction above.formula (neg_ℤ a) b in
    let h2 = either_bit above.formula (neg_ℤ a) b (IsOf-opposite above.formula.vars a (IsOf-grown f above.formula a g1 p))
    (IsOf-grown f above.formula b g1 q) in
    let g2 : IsGrown f upto.formula = grown_twice f above.formula upto.formula g1 h2.grown in
    let kept : Made = conjunction upto.formula low.literal upto.literal in
    let h3 = both_bit upto.formula low.literal upto.literal (IsOf-grown f upto.formula low.literal g2 o) h2.literal in
    let g3 : IsGrown f kept.formula = grown_twice f upto.formula kept.formula g2 h3.grown in
    let k2 : IsGrown above.formula kept.formula = grown_twice above.formula upto.formula kept.formula h2.grown h3.grown in
    let out : Made = disjunction kept.formula above.literal kept.literal in
    let h4 = either_bit kept.formula above.literal kept.literal (IsOf-grown above.formula kept.formula above.literal k2 h1.literal) h3.literal in
    let k3 : IsGrown upto.formula out.formula = grown_twice upto.formula kept.formula out.formula h3.grown h4.grown in
    let k1 : IsGrown above.formula out.formula = grown_twice above.formula kept.formula out.formula k2 h4.grown in
    record {
      grown = grown_twice f kept.formula out.formula g3 h4.grown;
      literal = h4.literal;
      value = λ w m.
          h4.value w m
          ∙ ap (λ k. k || literal_true w kept.literal) (h1.value w (model_before w above.formula out.formula k1 m)
          ∙ ap (λ k. k && literal_true w b) (literal_true-neg w a p.0))
          ∙ ap (λ k. (not (literal_true w a) && literal_true w b) || k) (h3.value w (model_before w kept.formula out.formula h4.grown m)
          ∙ ap (λ k. literal_true w low.literal && k) (h2.value w (model_before w upto.formula out.formula k3 m)
          ∙ ap (λ k. k || literal_true w b) (literal_true-neg w a p.0)));
    }

pub compared_bit : (low : Made) (xs ys : List ℤ) → IsOf low.formula.vars low.literal → All (IsOf low.formula.vars) xs
    → All (IsOf low.formula.vars) ys → length ys ≡ length xs
    → IsBit low.formula (less_literal low xs ys)
    (λ w. if literal_true w low.literal then nat_le (value w xs) (value w ys) else nat_lt (value w xs) (value w ys))
compared_bit low [] [] o p q e = record { grown = grown_none low.formula; literal = o; value = λ w m. itself (literal_true w low.literal) }
  where
    itself : (b : Bool) → b ≡ (if b then nat_le 0 0 else nat_lt 0 0)
    itself true = refl
    itself false = refl
compared_bit low [] (y ∷ ys) o p q e = absurd (omega (arith, e))
compared_bit low (x ∷ xs) [] o p q e = absurd (omega (arith, e))
compared_bit low (x ∷ xs) (y ∷ ys) o p q e =
    let f : Formula = low.formula in
    let here : Made = compared_place low x y in
    let g : Formula = here.formula in
    let h = compared_place_bit low x y o (All-head (IsOf f.vars) x xs p) (All-head (IsOf f.vars) y ys q) in
    let rest : Made = less_literal here xs ys in
    let r = compared_bit here xs ys h.literal (all_grown f g xs h.grown (All-tail (IsOf f.vars) x xs p))
    (all_grown f g ys h.grown (All-tail (IsOf f.vars) y ys q)) (omega (arith, e)) in
    record {
      grown = grown_twice f g rest.formula h.grown r.grown;
      literal = r.literal;
      value = λ w m. r.value w m
          ∙ ap (λ k. if k then nat_le (value w xs) (value w ys) else nat_lt (value w xs) (value w ys)) (h.value w (model_before w g rest.formula r.grown m))
          ∙ compare_values (literal_true w x) (literal_true w y) (literal_true w low.literal) (value w xs) (value w ys);
    }

or_nothing : (p : Bool) → p ≡ (p || false)
or_nothing true = refl
or_nothing false = refl

or_assoc : (p q r : Bool) → ((p || q) || r) ≡ (p || (q || r))
or_assoc true q r = refl
or_assoc false q r = refl

pub any_bit : (known : Made) (xs : List ℤ) → IsOf known.formula.vars known.literal → All (IsOf known.formula.vars) xs
    → IsBit known.formula (any_of known xs) (λ w. literal_true w known.literal || list_any (literal_true w) xs)
any_bit known [] o p = record { grown = grown_none known.formula; literal = o; value = λ w m. or_nothing (literal_true w known.literal) }
any_bit known (x ∷ xs) o p =
    let f : Formula = known.formula in
    let here : Made = disjunction f known.literal x in
    let g : Formula = here.formula in
    let h = either_bit f known.literal x o (All-head (IsOf f.vars) x xs p) in
    let rest : Made = any_of here xs in
    let r = any_bit here xs h.literal (all_grown f g xs h.grown (All-tail (IsOf f.vars) x xs p)) in
    record {
      grown = grown_twice f g rest.formula h.grown r.grown;
      literal = r.literal;
      value = λ w m. r.value w m ∙ ap (λ k. k || list_any (literal_true w) xs) (h.value w (model_before w g rest.formula r.grown m))
          ∙ or_assoc (literal_true w known.literal) (literal_true w x) (list_any (literal_true w) xs);
    }

pub words-mean : WordsMean
words-mean = record {
  gate = gated_words_mean;
  choose = chosen_words_mean;
  add = λ f xs ys c p q o e. added_along (kept f c) xs ys o p q e;
  invert = invert_means;
  compare = compared_bit;
  any = any_bit;
}
