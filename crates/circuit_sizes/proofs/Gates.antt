-- How much gates add, and gates along words.
use Rattle.std.proofs.Common.{ℕ, suc, ◌*◌, ◌≤◌, Bool, true, false, List, [], ◌∷◌, ℤ, pos, neg_ℤ, refl, arith, length}
use Rattle.std.specs.Prelude.{◌||◌, fold, if◌then◌else◌, nat_lt}
use Rattle.std.specs.Ordering.{int_eq}
use Rattle.std.proofs.lemmas.List.{length-append}
use Rattle.cnf_core.specs.Clauses.{Formula, var_of}
use Rattle.cnf_core.specs.Gates.{and_clauses, are_equal, is_both, is_one, xor_clauses}
use Rattle.cnf_core.specs.declared.gates.Gate.{Gate}
use Rattle.cnf_core.specs.declared.gates.Gate.TheVariants.{And, Or, Xor}
use Rattle.bit_gates.specs.Folded.{IsLarger, Made, conditional, conjunction, constant, differing, disjunction, folded_gate, kept, new_gate}
use Rattle.bit_ops.specs.bit_words.Words.{Placed, added_place, along, any_of, chosen_words, compared_place, gated_words, less_literal, made_place, word_sum}
use Rattle.bit_ops.proofs.bit_words.Loops.{larger_more}

pub larger_none : (n : ℕ) (f : Formula) → IsLarger n f f
larger_none n f = (omega arith, omega arith, omega arith)

pub larger_up : (m n : ℕ) (f g : Formula) → m ≤ n → IsLarger m f g → IsLarger n f g
larger_up m n f g less h = (h.0, omega (arith, h.1, less), omega (arith, h.2, less))

-- a gate
and_few : (a b out : ℤ) → length (and_clauses a b out) ≤ 3
and_few a b out = by (int_eq a b) (int_eq a (neg_ℤ b)) (nat_lt (var_of a) (var_of b))
  where
    by : (p q r : Bool) → length (if p then are_equal a out else if q then (neg_ℤ out ∷ []) ∷ [] else if r then is_both a b out else is_both b a out) ≤ 3
    by true q r = omega arith
    by false true r = omega arith
    by false false true = omega arith
    by false false false = omega arith

xor_few : (a b out : ℤ) → length (xor_clauses a b out) ≤ 4
xor_few a b out = by (int_eq a b) (int_eq a (neg_ℤ b)) (nat_lt (var_of a) (var_of b))
  where
    by : (p q r : Bool) → length (if p then (neg_ℤ out ∷ []) ∷ [] else if q then (out ∷ []) ∷ [] else if r then is_one a b out else is_one b a out) ≤ 4
    by true q r = omega arith
    by false true r = omega arith
    by false false true = omega arith
    by false false false = omega arith

pub conjunction_larger : (f : Formula) (a b : ℤ) → IsLarger 3 f (conjunction f a b).formula
conjunction_larger f a b =
    by (int_eq a (constant false) || int_eq b (constant false) || int_eq a (neg_ℤ b)) (int_eq a (constant true) || int_eq a b) (int_eq b (constant true))
  where
    by : (p q r : Bool) → IsLarger 3 f (if p then kept f (constant false) else if q then kept f b else if r then kept f a else new_gate f And a b).formula
    by true q r = larger_none 3 f
    by false true r = larger_none 3 f
    by false false true = larger_none 3 f
    by false false false =
        (omega arith, omega arith, omega (arith, length-append f.clauses (and_clauses a b (pos (suc f.vars))), and_few a b (pos (suc f.vars))))

pub disjunction_larger : (f : Formula) (a b : ℤ) → IsLarger 3 f (disjunction f a b).formula
disjunction_larger f a b = conjunction_larger f (neg_ℤ a) (neg_ℤ b)

pub differing_larger : (f : Formula) (a b : ℤ) → IsLarger 4 f (differing f a b).formula
differing_larger f a b =
    by (int_eq a b) (int_eq a (neg_ℤ b)) (int_eq a (constant false)) (int_eq a (constant true)) (int_eq b (constant false)) (int_eq b (constant true))
  where
    by : (p q r s t u : Bool)
        → IsLarger 4 f (if p then kept f (constant false) else if q then kept f (constant true) else if r then kept f b else if s then kept f (neg_ℤ b)
        else if t then kept f a else if u then kept f (neg_ℤ a) else new_gate f Xor a b).formula
    by true q r s t u = larger_none 4 f
    by false true r s t u = larger_none 4 f
    by false false true s t u = larger_none 4 f
    by false false false true t u = larger_none 4 f
    by false false false false true u = larger_none 4 f
    by false false false false false true = larger_none 4 f
    by false false false false false false =
        (omega arith, omega arith, omega (arith, length-append f.clauses (xor_clauses a b (pos (suc f.vars))), xor_few a b (pos (suc f.vars))))

gate_larger : (g : Gate) (f : Formula) (a b : ℤ) → IsLarger 4 f (folded_gate g f a b).formula
gate_larger And f a b = larger_up 3 4 f (conjunction f a b).formula (omega arith) (conjunction_larger f a b)
gate_larger Or f a b = larger_up 3 4 f (disjunction f a b).formula (omega arith) (disjunction_larger f a b)
gate_larger Xor f a b = differing_larger f a b

conditional_larger : (f : Formula) (c a b : ℤ) → IsLarger 9 f (conditional f c a b).formula
conditional_larger f c a b = by (int_eq a b)
  where
    x : Made
    x = conjunction f c a

    y : Made
    y = conjunction x.formula (neg_ℤ c) b

    by : (p : Bool) → IsLarger 9 f (if p then kept f a else disjunction y.formula x.literal y.literal).formula
    by true = larger_none 9 f
    by false =
        larger_more 6 3 9 f y.formula (disjunction y.formula x.literal y.literal).formula
        (larger_more 3 3 6 f x.formula y.formula (conjunction_larger f c a) (conjunction_larger x.formula (neg_ℤ c) b) refl)
        (disjunction_larger y.formula x.literal y.literal) refl

-- steps, each of which adds at most `n`
pub fold_larger : {S X : Type 0} (formula : S → Formula) (step : S → X → S) (n : ℕ) (s : S) (xs : List X)
    → ((t : S) (x : X) → IsLarger n (formula t) (formula (step t x))) → IsLarger (length xs * n) (formula s) (formula (fold step s xs))
fold_larger formula step n s [] each = (omega arith, omega arith, omega arith)
fold_larger formula step n s (x ∷ xs) each =
    larger_more n (length xs * n) (length (x ∷ xs) * n) (formula s) (formula (step s x)) (formula (fold step (step s x) xs)) (each s x)
    (fold_larger formula step n (step s x) xs each) (omega arith)

-- a circuit along two words
module _ {S : Type 0} (formula : S → Formula) (step : S → ℤ → ℤ → Placed S) (n : ℕ)
    (each : (s : S) (a b : ℤ) → IsLarger n (formula s) (formula (step s a b).state)) where
  pub along_larger : (s : S) (xs ys : List ℤ) → IsLarger (length xs * n) (formula s) (formula (along step s xs ys).state)
  along_larger s [] ys = (omega arith, omega arith, omega arith)
  along_larger s (a ∷ xs) [] = (omega arith, omega arith, omega arith)
  along_larger s (a ∷ xs) (b ∷ ys) =
      let here : Placed S = step s a b in
      larger_more n (length xs * n) (length (a ∷ xs) * n) (formula s) (formula here.state) (formula (along step here.state xs ys).state) (each s a b)
      (along_larger here.state xs ys) (omega arith)

  pub along_larger_second : (s : S) (xs ys : List ℤ) → IsLarger (length ys * n) (formula s) (formula (along step s xs ys).state)
  along_larger_second s [] ys = (omega arith, omega arith, omega arith)
  along_larger_second s (a ∷ xs) [] = (omega arith, omega arith, omega arith)
  along_larger_second s (a ∷ xs) (b ∷ ys) =
      let here : Placed S = step s a b in
      larger_more n (length ys * n) (length (b ∷ ys) * n) (formula s) (formula here.state) (formula (along step here.state xs ys).state) (each s a b)
      (along_larger_second here.state xs ys) (omega arith)

pub along_short : {S : Type 0} (step : S → ℤ → ℤ → Placed S) (s : S) (xs ys : List ℤ) → length (along step s xs ys).word ≤ length xs
along_short step s [] ys = omega arith
along_short step s (a ∷ xs) [] = omega arith
along_short step s (a ∷ xs) (b ∷ ys) = omega (arith, along_short step (step s a b).state xs ys)

pub along_short_second : {S : Type 0} (step : S → ℤ → ℤ → Placed S) (s : S) (xs ys : List ℤ) → length (along step s xs ys).word ≤ length ys
along_short_second step s [] ys = omega arith
along_short_second step s (a ∷ xs) [] = omega arith
along_short_second step s (a ∷ xs) (b ∷ ys) = omega (arith, along_short_second step (step s a b).state xs ys)

pub gated_larger : (g : Gate) (f : Formula) (xs ys : List ℤ) → IsLarger (length xs * 4) f (gated_words g f xs ys).state
gated_larger g f xs ys = along_larger (λ h. h) (λ h a b. made_place (folded_gate g h a b)) 4 (gate_larger g) f xs ys

pub chosen_larger : (c : ℤ) (f : Formula) (xs ys : List ℤ) → IsLarger (length ys * 9) f (chosen_words c f xs ys).state
chosen_larger c f xs ys = along_larger_second (λ h. h) (λ h a b. made_place (conditional h c a b)) 9 (λ h a b. conditional_larger h c a b) f xs ys

added_larger : (carry : Made) (a b : ℤ) → IsLarger 17 carry.formula (added_place carry a b).state.formula
added_larger carry a b =
    let half : Made = differing carry.formula a b in
    let sum : Made = differing half.formula half.literal carry.literal in
    let two : Made = conjunction sum.formula a b in
    let one : Made = conjunction two.formula half.literal carry.literal in
    let last : Made = disjunction one.formula two.literal one.literal in
    larger_more 14 3 17 carry.formula one.formula last.formula
    (larger_more 11 3 14 carry.formula two.formula one.formula
    (larger_more 8 3 11 carry.formula sum.formula two.formula
    (larger_more 4 4 8 carry.formula half.formula sum.formula (differing_larger carry.formula a b) (differing_larger half.formula half.literal carry.literal) refl)
    (conjunction_larger sum.formula a b) refl)
    (conjunction_larger two.formula half.literal carry.literal) refl)
    (disjunction_larger one.formula two.literal one.literal) refl

pub sum_larger : (f : Formula) (xs ys : List ℤ) (carry : ℤ) → IsLarger (length xs * 17) f (word_sum f xs ys carry).state.formula
sum_larger f xs ys carry = along_larger (λ (m : Made). m.formula) added_place 17 added_larger (kept f carry) xs ys

pub any_larger : (known : Made) (ls : List ℤ) → IsLarger (length ls * 3) known.formula (any_of known ls).formula
any_larger known [] = larger_none 0 known.formula
any_larger known (l ∷ ls) =
    let here : Made = disjunction known.formula known.literal l in
    larger_more 3 (length ls * 3) (length (l ∷ ls) * 3) known.formula here.formula (any_of here ls).formula (disjunction_larger known.formula known.literal l)
    (any_larger here ls) (omega arith)

-- a comparison
place_larger : (low : Made) (a b : ℤ) → IsLarger 12 low.formula (compared_place low a b).formula
place_larger low a b =
    let above : Made = conjunction low.formula (neg_ℤ a) b in
    let not_below : Made = disjunction above.formula (neg_ℤ a) b in
    let both : Made = conjunction not_below.formula low.literal not_below.literal in
    let last : Made = disjunction both.formula above.literal both.literal in
    larger_more 9 3 12 low.formula both.formula last.formula
    (larger_more 6 3 9 low.formula not_below.formula both.formula
    (larger_more 3 3 6 low.formula above.formula not_below.formula (conjunction_larger low.formula (neg_ℤ a) b)
    (disjunction_larger above.formula (neg_ℤ a) b) refl)
    (conjunction_larger not_below.formula low.literal not_below.literal) refl)
    (disjunction_larger both.formula above.literal both.literal) refl

pub less_larger : (low : Made) (xs ys : List ℤ) → IsLarger (length ys * 12) low.formula (less_literal low xs ys).formula
less_larger low [] ys = larger_none (length ys * 12) low.formula
less_larger low (a ∷ xs) [] = larger_none 0 low.formula
less_larger low (a ∷ xs) (b ∷ ys) =
    let here : Made = compared_place low a b in
    larger_more 12 (length ys * 12) (length (b ∷ ys) * 12) low.formula here.formula (less_literal here xs ys).formula (place_larger low a b) (less_larger here xs ys)
    (omega arith)
