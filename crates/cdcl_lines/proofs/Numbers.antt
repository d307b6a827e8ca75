-- Literals and their numbers.
use Rattle.std.proofs.Common.{
  ◌≡◌,
  ◌≢◌,
  ℕ,
  zero,
  suc,
  ◌+◌,
  ◌-◌,
  ◌*◌,
  ◌/◌,
  ◌%◌,
  ◌<◌,
  ◌≤◌,
  true,
  eqb,
  List,
  [],
  ◌∷◌,
  ℤ,
  pos,
  negsuc,
  neg_ℤ,
  inl,
  inr,
  refl,
  sym,
  ◌∙◌,
  ap,
  subst,
  arith,
}
use Rattle.std.specs.Prelude.{Contains, All, AllPairs, nat_lt, nat_le}
use Rattle.std.specs.List.{list_all}
use Rattle.std.proofs.lemmas.Bool.{eq-eqb, ne_eqb, cond-true, cond-false, and_parts, and_from, lt-ltb, ltb-true, le-leb, leb-true}
use Rattle.std.proofs.lemmas.List.Elements.{All-cons, All-head, All-tail, All-nil}
use Rattle.cnf_core.specs.Clauses.{var_of, rises_above, is_within}
use Rattle.cdcl_literals.specs.Literals.{opposite_of}
use Rattle.cdcl_literals.proofs.Opposites.{opposite_of-cases}
use Rattle.cdcl_lines.specs.Literals.{literal_of, code_of, clause_of, numbers_of}
use Rattle.cdcl_lines.proofs.Members.{contains-here, contains-there, contains-cases, all-pairs-head}

pub even-literal : (l : ℕ) → l % 2 ≡ 0 → literal_of l ≡ pos (suc (l / 2))
even-literal l e = cond-true (eqb (l % 2) 0) (pos (suc (l / 2))) (negsuc (l / 2)) (eq-eqb (l % 2) 0 e)

pub odd-literal : (l : ℕ) → l % 2 ≡ 1 → literal_of l ≡ negsuc (l / 2)
odd-literal l e = cond-false (eqb (l % 2) 0) (pos (suc (l / 2))) (negsuc (l / 2)) (ne_eqb (l % 2) 0 (omega arith))

pub neg-literal : (l : ℕ) → neg_ℤ (literal_of l) ≡ literal_of (opposite_of l)
neg-literal l =
    elim (opposite_of-cases l) [
      | inl e ↦
          let h : opposite_of l / 2 ≡ l / 2 = omega (arith, e.0, e.1) in
          ap neg_ℤ (even-literal l e.0) ∙ sym (odd-literal (opposite_of l) (omega (arith, e.0, e.1)) ∙ ap negsuc h)
      | inr e ↦
          let h : opposite_of l / 2 ≡ l / 2 = omega (arith, e.0, e.1) in
          ap neg_ℤ (odd-literal l e.0) ∙ sym (even-literal (opposite_of l) (omega (arith, e.0, e.1)) ∙ ap (λ n. pos (suc n)) h)
    ]

pub code-literal : (l : ℕ) → code_of (literal_of l) ≡ l
code-literal l =
    elim (opposite_of-cases l) [
      | inl e ↦ ap code_of (even-literal l e.0) ∙ omega (arith, e.0)
      | inr e ↦ ap code_of (odd-literal l e.0) ∙ omega (arith, e.0)
    ]

pub same-literal : (a b : ℕ) → literal_of a ≡ literal_of b → a ≡ b
same-literal a b e = sym (code-literal a) ∙ ap code_of e ∙ code-literal b

pub var-literal : (l : ℕ) → var_of (literal_of l) ≡ suc (l / 2)
var-literal l = elim (opposite_of-cases l) [ inl e ↦ ap var_of (even-literal l e.0) | inr e ↦ ap var_of (odd-literal l e.0) ]

pub literal-code : (z : ℤ) → 0 < var_of z → literal_of (code_of z) ≡ z
literal-code (pos zero) h = absurd (omega arith)
literal-code (pos (suc n)) h =
    let e : 2 * (suc n - 1) / 2 ≡ n = omega arith in
    even-literal (2 * (suc n - 1)) (omega arith) ∙ ap (λ (k : ℕ). pos (suc k)) e
literal-code (negsuc n) h =
    let e : (2 * n + 1) / 2 ≡ n = omega arith in
    odd-literal (2 * n + 1) (omega arith) ∙ ap negsuc e

-- all literals of a clause are above the variable
pub above-contains : (low : ℕ) (c : List ℤ) (z : ℤ) → rises_above low c ≡ true → Contains c z → low < var_of z
above-contains low [] z r h = absurd (omega (arith, h.1))
above-contains low (x ∷ c) z r h =
    let p = and_parts (nat_lt low (var_of x)) (rises_above (var_of x) c) r in
    let a : low < var_of x = ltb-true low (var_of x) p.0 in
    elim (contains-cases x c z h) [
      | inl e ↦ subst (λ y. low < var_of y) e a
      | inr g ↦ (let b : var_of x < var_of z = above-contains (var_of x) c z p.1 g in omega arith)
    ]

-- rising numbers without opposites are literals that rise by variable
pub rises-sorted : (low : ℕ) (ls : List ℕ) → ((l : ℕ) → Contains ls l → low < suc (l / 2)) → AllPairs (λ a b. a < b) ls
    → ((l : ℕ) → Contains ls l → Contains ls (opposite_of l) → ⊥) → rises_above low (clause_of ls) ≡ true
rises-sorted low [] h s a = refl
rises-sorted low (x ∷ ls) h s a =
    let v : var_of (literal_of x) ≡ suc (x / 2) = var-literal x in
    let first : nat_lt low (var_of (literal_of x)) ≡ true = lt-ltb low (var_of (literal_of x)) (omega (arith, v, h x (contains-here x ls))) in
    let rest : rises_above (var_of (literal_of x)) (clause_of ls) ≡ true = rises-sorted (var_of (literal_of x)) ls
    (λ l c.
    let b : x < l = all-pairs-head (λ a b. a < b) x ls l s c in
    let n : l ≢ opposite_of x = λ e. a x (contains-here x ls) (subst (λ m. Contains (x ∷ ls) m) e (contains-there x ls l c)) in
    elim (opposite_of-cases x) [ inl e ↦ omega (arith, v, b, n, e.0, e.1) | inr e ↦ omega (arith, v, b, e.0, e.1) ])
    (λ i j d il jl. s (suc i) (suc j) d (omega arith) (omega arith))
    (λ l c d. a l (contains-there x ls l c) (contains-there x ls (opposite_of l) d)) in
    and_from (nat_lt low (var_of (literal_of x))) (rises_above (var_of (literal_of x)) (clause_of ls)) first rest

pub within-from : (vars : ℕ) (ls : List ℕ) → is_within vars (clause_of ls) ≡ true → All (λ l. l < 2 * vars) ls
within-from vars [] h = All-nil (λ l. l < 2 * vars)
within-from vars (x ∷ ls) h =
    let p = and_parts (nat_le (var_of (literal_of x)) vars) (is_within vars (clause_of ls)) h in
    let v : suc (x / 2) ≤ vars = omega (arith, var-literal x, leb-true (var_of (literal_of x)) vars p.0) in
    All-cons (λ l. l < 2 * vars) x ls (omega arith) (within-from vars ls p.1)

pub within-there : (vars : ℕ) (ls : List ℕ) → All (λ l. l < 2 * vars) ls → is_within vars (clause_of ls) ≡ true
within-there vars [] h = refl
within-there vars (x ∷ ls) h =
    let b : x < 2 * vars = All-head (λ l. l < 2 * vars) x ls h in
    and_from (nat_le (var_of (literal_of x)) vars) (is_within vars (clause_of ls)) (le-leb (var_of (literal_of x)) vars (omega (arith, var-literal x)))
    (within-there vars ls (All-tail (λ l. l < 2 * vars) x ls h))

-- numbers of clauses count from 1
pub numbers-positive : (ks : List ℕ) → list_all (λ n. nat_lt 0 n) (numbers_of ks) ≡ true
numbers-positive [] = refl
numbers-positive (k ∷ ks) = and_from (nat_lt 0 (suc k)) (list_all (λ n. nat_lt 0 n) (numbers_of ks)) (lt-ltb 0 (suc k) (omega arith)) (numbers-positive ks)
