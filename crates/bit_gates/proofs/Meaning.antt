-- The meaning of each gate.
use Rattle.std.proofs.Common.{◌≡◌, ℕ, ◌<◌, [], ◌∷◌, ℤ, neg_ℤ, refl, ap, sym, ◌∙◌, arith, Bool, true, false, not}
use Rattle.std.specs.Prelude.{◌&&◌, ◌||◌, if◌then◌else◌}
use Rattle.std.specs.Ordering.{int_eq}
use Rattle.std.proofs.lemmas.Bool.{and_from}
use Rattle.std.proofs.lemmas.Bool.Decides.{Decides-int_eq}
use Rattle.cnf_core.specs.Clauses.{var_of, Formula, Valuation, literal_true}
use Rattle.cnf_core.specs.Gates.{gate_value, Wired, is_over}
use Rattle.cnf_core.specs.declared.gates.Gate.{Gate}
use Rattle.cnf_core.specs.declared.gates.Gate.TheVariants.{And, Or, Xor}
use Rattle.cnf_core.proofs.GateLaws.{literal_true-neg, gate-decides}
use Rattle.bit_gates.specs.Folded.{Made, constant, kept, new_gate, conjunction, disjunction, differing, folded_gate, conditional}
use Rattle.bit_gates.specs.Laws.{IsModel, IsOf, IsBit, GatesMean}
use Rattle.bit_gates.proofs.Blocks.{IsOf-opposite, is_over-of, grown_none, grown_twice, IsOf-grown, model_before}

choose_case : {A : Type 0} (P : A → Type 0) (c : Bool) (s t : A) → (c ≡ true → P s) → (c ≡ false → P t) → P (if c then s else t)
choose_case P true s t f g = f refl
choose_case P false s t f g = g refl

kept_bit : (f : Formula) (l : ℤ) (meaning : Valuation → Bool) → IsOf f.vars l → ((w : Valuation) → IsModel w f → literal_true w l ≡ meaning w)
    → IsBit f (kept f l) meaning
kept_bit f l meaning o v = record { grown = grown_none f; literal = o; value = v }

gated_bit : (f : Formula) (g : Gate) (a b : ℤ) → IsOf f.vars a → IsOf f.vars b
    → IsBit f (new_gate f g a b) (λ w. gate_value g (literal_true w a) (literal_true w b))
gated_bit f g a b p q =
    let wired : Wired = record { gate = g; first = a; second = b } in
    let first : is_over f.vars a ≡ true = is_over-of f.vars a p in
    let second : is_over f.vars b ≡ true = is_over-of f.vars b q in
    record {
      grown = record { gates = wired ∷ []; block = and_from _ _ (and_from _ _ first second) refl; formula = refl };
      literal = (omega arith, omega arith);
      value = λ w m. gate-decides f wired w
          (record { first-positive = p.0; first-within = p.1; second-positive = q.0; second-within = q.1 }) m.all;
    }

pub constant_of : (n : ℕ) (b : Bool) → 0 < n → IsOf n (constant b)
constant_of n true h = (omega arith, omega arith)
constant_of n false h = (omega arith, omega arith)

pub constant_value : (w : Valuation) (b : Bool) → w 1 ≡ true → literal_true w (constant b) ≡ b
constant_value w true h = h
constant_value w false h = ap not h

-- a literal that is a constant
is_constant : (w : Valuation) (l : ℤ) (b : Bool) → int_eq l (constant b) ≡ true → w 1 ≡ true → literal_true w l ≡ b
is_constant w l b e h = ap (literal_true w) ((Decides-int_eq l (constant b)).0 e) ∙ constant_value w b h

is_same : (w : Valuation) (a b : ℤ) → int_eq a b ≡ true → literal_true w a ≡ literal_true w b
is_same w a b e = ap (literal_true w) ((Decides-int_eq a b).0 e)

is_opposite : (w : Valuation) (a b : ℤ) → 0 < var_of b → int_eq a (neg_ℤ b) ≡ true → literal_true w a ≡ not (literal_true w b)
is_opposite w a b h e = ap (literal_true w) ((Decides-int_eq a (neg_ℤ b)).0 e) ∙ literal_true-neg w b h

or_three : (a b c : Bool) (P : Type 0) → (a || b || c) ≡ true → (a ≡ true → P) → (b ≡ true → P) → (c ≡ true → P) → P
or_three true b c P h p q r = p refl
or_three false true c P h p q r = q refl
or_three false false c P h p q r = r h

or_two : (a b : Bool) (P : Type 0) → (a || b) ≡ true → (a ≡ true → P) → (b ≡ true → P) → P
or_two true b P h p q = p refl
or_two false b P h p q = q h

-- conjunctions whose value is known
none_first : (p q : Bool) → p ≡ false → false ≡ (p && q)
none_first p q h = grind arith

none_second : (p q : Bool) → q ≡ false → false ≡ (p && q)
none_second true q h = sym h
none_second false q h = refl

none_opposite : (p q : Bool) → p ≡ not q → false ≡ (p && q)
none_opposite true true h = sym h
none_opposite true false h = refl
none_opposite false q h = refl

second_alone : (p q : Bool) → p ≡ true → q ≡ (p && q)
second_alone true q h = refl
second_alone false q h = absurd (cc)

second_same : (p q : Bool) → p ≡ q → q ≡ (p && q)
second_same true q h = refl
second_same false q h = sym h

first_alone : (p q : Bool) → q ≡ true → p ≡ (p && q)
first_alone true q h = sym h
first_alone false q h = refl

pub both_bit : (f : Formula) (a b : ℤ) → IsOf f.vars a → IsOf f.vars b → IsBit f (conjunction f a b) (λ w. literal_true w a && literal_true w b)
both_bit f a b p q =
    let n : 0 < f.vars = omega (arith, p.0, p.1) in
    let meaning : Valuation → Bool = λ w. literal_true w a && literal_true w b in
    let P : Made → Type 0 = λ m. IsBit f m meaning in
    choose_case P (int_eq a (constant false) || int_eq b (constant false) || int_eq a (neg_ℤ b)) _ _
    (λ e. kept_bit f (constant false) meaning (constant_of f.vars false n)
    (λ w m. constant_value w false m.one ∙ or_three _ _ _ (false ≡ (literal_true w a && literal_true w b)) e
    (λ x. none_first _ _ (is_constant w a false x m.one))
    (λ x. none_second _ _ (is_constant w b false x m.one))
    (λ x. none_opposite _ _ (is_opposite w a b q.0 x))))
    (λ _. choose_case P (int_eq a (constant true) || int_eq a b) _ _
    (λ e. kept_bit f b meaning q (λ w m. or_two _ _ (literal_true w b ≡ (literal_true w a && literal_true w b)) e
    (λ x. second_alone _ _ (is_constant w a true x m.one))
    (λ x. second_same _ _ (is_same w a b x))))
    (λ _. choose_case P (int_eq b (constant true)) _ _
    (λ e. kept_bit f a meaning p (λ w m. first_alone _ _ (is_constant w b true e m.one)))
    (λ _. gated_bit f And a b p q)))

not_and : (p q : Bool) → not (not p && not q) ≡ (p || q)
not_and true q = refl
not_and false true = refl
not_and false false = refl

pub either_bit : (f : Formula) (a b : ℤ) → IsOf f.vars a → IsOf f.vars b → IsBit f (disjunction f a b) (λ w. literal_true w a || literal_true w b)
either_bit f a b p q =
    let made : Made = conjunction f (neg_ℤ a) (neg_ℤ b) in
    let h = both_bit f (neg_ℤ a) (neg_ℤ b) (IsOf-opposite f.vars a p) (IsOf-opposite f.vars b q) in
    record {
      grown = h.grown;
      literal = IsOf-opposite made.formula.vars made.literal h.literal;
      value = λ w m. literal_true-neg w made.literal h.literal.0 ∙ ap not (h.value w m)
          ∙ ap (λ x. not (x && literal_true w (neg_ℤ b))) (literal_true-neg w a p.0)
          ∙ ap (λ x. not (not (literal_true w a) && x)) (literal_true-neg w b q.0)
          ∙ not_and (literal_true w a) (literal_true w b);
    }

-- exclusive disjunctions whose value is known
same_value : (p q : Bool) → p ≡ q → false ≡ (if p then not q else q)
same_value true q h = ap not h
same_value false q h = h

opposite_value : (p q : Bool) → p ≡ not q → true ≡ (if p then not q else q)
opposite_value true q h = h
opposite_value false true h = refl
opposite_value false false h = sym h

first_false : (p q : Bool) → p ≡ false → q ≡ (if p then not q else q)
first_false true q h = absurd (cc)
first_false false q h = refl

first_true : (p q : Bool) → p ≡ true → not q ≡ (if p then not q else q)
first_true true q h = refl
first_true false q h = absurd (cc)

second_false : (p q : Bool) → q ≡ false → p ≡ (if p then not q else q)
second_false true q h = ap not (sym h)
second_false false q h = sym h

second_true : (p q : Bool) → q ≡ true → not p ≡ (if p then not q else q)
second_true true q h = ap not (sym h)
second_true false q h = sym h

pub differing_bit : (f : Formula) (a b : ℤ) → IsOf f.vars a → IsOf f.vars b
    → IsBit f (differing f a b) (λ w. if literal_true w a then not (literal_true w b) else literal_true w b)
differing_bit f a b p q =
    let n : 0 < f.vars = omega (arith, p.0, p.1) in
    let meaning : Valuation → Bool = λ w. if literal_true w a then not (literal_true w b) else literal_true w b in
    let P : Made → Type 0 = λ m. IsBit f m meaning in
    choose_case P (int_eq a b) _ _
    (λ e. kept_bit f (constant false) meaning (constant_of f.vars false n)
    (λ w m. constant_value w false m.one ∙ same_value _ _ (is_same w a b e)))
    (λ _. choose_case P (int_eq a (neg_ℤ b)) _ _
    (λ e. kept_bit f (constant true) meaning (constant_of f.vars true n)
    (λ w m. constant_value w true m.one ∙ opposite_value _ _ (is_opposite w a b q.0 e)))
    (λ _. choose_case P (int_eq a (constant false)) _ _
    (λ e. kept_bit f b meaning q (λ w m. first_false _ _ (is_constant w a false e m.one)))
    (λ _. choose_case P (int_eq a (constant true)) _ _
    (λ e. kept_bit f (neg_ℤ b) meaning (IsOf-opposite f.vars b q)
    (λ w m. literal_true-neg w b q.0 ∙ first_true _ _ (is_constant w a true e m.one)))
    (λ _. choose_case P (int_eq b (constant false)) _ _
    (λ e. kept_bit f a meaning p (λ w m. second_false _ _ (is_constant w b false e m.one)))
    (λ _. choose_case P (int_eq b (constant true)) _ _
    (λ e. kept_bit f (neg_ℤ a) meaning (IsOf-opposite f.vars a p)
    (λ w m. literal_true-neg w a p.0 ∙ second_true _ _ (is_constant w b true e m.one)))
    (λ _. gated_bit f Xor a b p q))))))

choice : (c a b : Bool) → ((c && a) || (not c && b)) ≡ (if c then a else b)
choice true true b = refl
choice true false b = refl
choice false a b = refl

if_same : (c p q : Bool) → p ≡ q → p ≡ (if c then p else q)
if_same true p q h = refl
if_same false p q h = h

pub chosen_bit : (f : Formula) (c a b : ℤ) → IsOf f.vars c → IsOf f.vars a → IsOf f.vars b
    → IsBit f (conditional f c a b) (λ w. if literal_true w c then literal_true w a else literal_true w b)
chosen_bit f c a b o p q =
    let meaning : Valuation → Bool = λ w. if literal_true w c then literal_true w a else literal_true w b in
    let P : Made → Type 0 = λ m. IsBit f m meaning in
    let x : Made = conjunction f c a in
    let y : Made = conjunction x.formula (neg_ℤ c) b in
    let hx = both_bit f c a o p in
    let hy = both_bit x.formula (neg_ℤ c) b (IsOf-opposite x.formula.vars c (IsOf-grown f x.formula c hx.grown o))
    (IsOf-grown f x.formula b hx.grown q) in
    let hz = either_bit y.formula x.literal y.literal (IsOf-grown x.formula y.formula x.literal hy.grown hx.literal) hy.literal in
    let z : Made = disjunction y.formula x.literal y.literal in
    choose_case P (int_eq a b) _ _
    (λ e. kept_bit f a meaning p (λ w m. if_same (literal_true w c) _ _ (is_same w a b e)))
    (λ _. record {
      grown = grown_twice f y.formula z.formula (grown_twice f x.formula y.formula hx.grown hy.grown) hz.grown;
      literal = hz.literal;
      value = λ w m.
          let my : IsModel w y.formula = model_before w y.formula z.formula hz.grown m in
          let mx : IsModel w x.formula = model_before w x.formula y.formula hy.grown my in
          hz.value w m
          ∙ ap (λ k. k || literal_true w y.literal) (hx.value w mx)
          ∙ ap (λ k. (literal_true w c && literal_true w a) || k) (hy.value w my ∙ ap (λ k. k && literal_true w b) (literal_true-neg w c o.0))
          ∙ choice (literal_true w c) (literal_true w a) (literal_true w b);
    })

pub folded_bit : (g : Gate) (f : Formula) (a b : ℤ) → IsOf f.vars a → IsOf f.vars b
    → IsBit f (folded_gate g f a b) (λ w. gate_value g (literal_true w a) (literal_true w b))
folded_bit And f a b p q = both_bit f a b p q
folded_bit Or f a b p q = either_bit f a b p q
folded_bit Xor f a b p q = differing_bit f a b p q

pub gates-mean : GatesMean
gates-mean = record { gate = folded_bit; choose = chosen_bit }
