-- Formulas with more blocks of gates.
use Rattle.std.proofs.Common.{◌≡◌, ℕ, suc, zero, ◌≤◌, ◌+◌, List, [], ◌∷◌, ◌++◌, ℤ, pos, negsuc, neg_ℤ, refl, ap, sym, ◌∙◌, subst, arith, true, length}
use Rattle.std.specs.Prelude.{nat_lt, nat_le}
use borrow.Author.Tests.{lt-ltb, le-leb}
use Rattle.std.proofs.lemmas.Bool.{and_parts, and_from}
use Rattle.std.proofs.lemmas.List.Folds.{list_all-append}
use Rattle.std.proofs.lemmas.List.Sums.{fold-append}
use Rattle.cnf_core.specs.Clauses.{var_of, Formula, Valuation, clause_true, satisfies}
use Rattle.cnf_core.specs.Gates.{Wired, gate_clauses, is_over, is_block, after_gate, after_gates}
use Rattle.bit_gates.specs.Laws.{IsGrown, IsModel, IsOf}

pub var_of-opposite : (l : ℤ) → var_of (neg_ℤ l) ≡ var_of l
var_of-opposite (pos zero) = refl
var_of-opposite (pos (suc n)) = refl
var_of-opposite (negsuc n) = refl

pub IsOf-opposite : (n : ℕ) (l : ℤ) → IsOf n l → IsOf n (neg_ℤ l)
IsOf-opposite n l h = let e : var_of (neg_ℤ l) ≡ var_of l = var_of-opposite l in (omega (arith, h.0), omega (arith, h.1))

pub is_over-of : (n : ℕ) (l : ℤ) → IsOf n l → is_over n l ≡ true
is_over-of n l h =
    let a : nat_lt 0 (var_of l) ≡ true = lt-ltb 0 (var_of l) h.0 in
    let b : nat_le (var_of l) n ≡ true = le-leb (var_of l) n h.1 in
    rw (a, b) refl

-- blocks one after another
is_block-append : (n : ℕ) (gs hs : List Wired) → is_block n gs ≡ true → is_block (n + length gs) hs ≡ true → is_block n (gs ++ hs) ≡ true
is_block-append n [] hs p q = let e : n + 0 ≡ n = omega arith in subst (λ k. is_block k hs ≡ true) e q
is_block-append n (g ∷ gs) hs p q =
    let e : n + suc (length gs) ≡ suc n + length gs = omega arith in
    let r : is_block (suc n) (gs ++ hs) ≡ true = is_block-append (suc n) gs hs (and_parts _ _ p).1 (subst (λ k. is_block k hs ≡ true) e q) in
    and_from _ _ (and_parts _ _ p).0 r

vars_after : (f : Formula) (gs : List Wired) → (after_gates f gs).vars ≡ f.vars + length gs
vars_after f [] = omega arith
vars_after f (g ∷ gs) = let e : (after_gates (after_gate f g) gs).vars ≡ suc f.vars + length gs = vars_after (after_gate f g) gs in e ∙ omega arith

pub grown_more : (f g : Formula) → IsGrown f g → f.vars ≤ g.vars
grown_more f g h =
    let e : g.vars ≡ f.vars + length h.gates = ap (λ (k : Formula). k.vars) h.formula ∙ vars_after f h.gates in
    omega arith

pub grown_none : (f : Formula) → IsGrown f f
grown_none f = record { gates = []; block = refl; formula = refl }

pub grown_twice : (f g k : Formula) → IsGrown f g → IsGrown g k → IsGrown f k
grown_twice f g k p q =
    let e : g.vars ≡ f.vars + length p.gates = ap (λ (x : Formula). x.vars) p.formula ∙ vars_after f p.gates in
    record {
      gates = p.gates ++ q.gates;
      block = is_block-append f.vars p.gates q.gates p.block (subst (λ n. is_block n q.gates ≡ true) e q.block);
      formula = q.formula ∙ ap (λ x. after_gates x q.gates) p.formula ∙ sym (fold-append after_gate f p.gates q.gates);
    }

pub IsOf-grown : (f g : Formula) (l : ℤ) → IsGrown f g → IsOf f.vars l → IsOf g.vars l
IsOf-grown f g l h o = let m : f.vars ≤ g.vars = grown_more f g h in (o.0, omega (arith, o.1))

before_gates : (w : Valuation) (f : Formula) (gs : List Wired) → satisfies w (after_gates f gs).clauses ≡ true → satisfies w f.clauses ≡ true
before_gates w f [] s = s
before_gates w f (g ∷ gs) s =
    let all : satisfies w (f.clauses ++ gate_clauses f.vars g) ≡ true = before_gates w (after_gate f g) gs s in
    (and_parts _ _ (sym (list_all-append (clause_true w) f.clauses (gate_clauses f.vars g)) ∙ all)).0

-- a model of a formula is a model of what it has grown from
pub model_before : (w : Valuation) (f g : Formula) → IsGrown f g → IsModel w g → IsModel w f
model_before w f g h m = record {
  one = m.one;
  all = before_gates w f h.gates (subst (λ (k : Formula). satisfies w k.clauses ≡ true) h.formula m.all);
}
