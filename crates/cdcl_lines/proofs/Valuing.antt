-- An assignment, value by value.
use Rattle.std.proofs.Common.{
  ◌≡◌,
  ℕ,
  suc,
  ◌+◌,
  ◌-◌,
  ◌*◌,
  ◌/◌,
  ◌%◌,
  ◌<◌,
  Bool,
  true,
  false,
  not,
  List,
  [],
  ◌∷◌,
  ◌++◌,
  length,
  get_or,
  inl,
  inr,
  refl,
  sym,
  ◌∙◌,
  ap,
  subst,
  arith,
}
use Rattle.std.specs.Prelude.{Contains}
use Rattle.std.proofs.lemmas.Bool.{cases_lt}
use Rattle.std.proofs.lemmas.List.{get_or_at, get_or_append_left, length_push}
use Rattle.cnf_core.specs.Clauses.{literal_true, value_in}
use Rattle.cdcl_literals.specs.Literals.{opposite_of}
use Rattle.cdcl_trail.specs.Trail.{Trail, IsTrail, Is}
use Rattle.cdcl_trail.specs.declared.trail.Value.TheVariants.{Open, True, False}
use Rattle.cdcl_literals.proofs.Opposites.{opposite_of-cases}
use Rattle.cdcl_lines.specs.Models.{Agrees}
use Rattle.cdcl_lines.proofs.Numbers.{even-literal, odd-literal}
use Rattle.cdcl_lines.proofs.Freshness.{trail-within}
use Rattle.cdcl_trail.proofs.Opposites.{not-both}

-- the value of a variable is that on the trail
pub record IsValue (t : Trail) (v : ℕ) (b : Bool) : Type 0 where
  pub yes : Contains t.literals (2 * v) → b ≡ true
  pub no : Contains t.literals (opposite_of (2 * v)) → b ≡ false

-- the values agree with the trail on the first variables
pub record AgreesBelow (t : Trail) (values : List Bool) (n : ℕ) : Type 0 where
  pub count : length values ≡ n
  pub same : (v : ℕ) → v < n → IsValue t v (get_or values v false)

pub value-true : (t : Trail) (v : ℕ) → Is t (2 * v) True → IsValue t v true
value-true t v h = record { yes = λ m. refl; no = λ m. absurd (h.not_false m) }

pub value-false : (t : Trail) (v : ℕ) → IsTrail t → Is t (2 * v) False → IsValue t v false
value-false t v u h = record { yes = λ m. absurd (not-both t u (2 * v) m h); no = λ m. refl }

pub value-open : (t : Trail) (v : ℕ) → Is t (2 * v) Open → IsValue t v false
value-open t v h = record { yes = λ m. absurd (h.not_true m); no = λ m. refl }

pub agrees-more : (t : Trail) (values : List Bool) (n : ℕ) (b : Bool) → AgreesBelow t values n → IsValue t n b → AgreesBelow t (values ++ b ∷ []) (n + 1)
agrees-more t values n b a i = record {
  count = omega (arith, length_push values b, a.count);
  same = λ v h. elim (cases_lt v n) [
    | inl d ↦ subst (λ (c : Bool). IsValue t v c) (sym (get_or_append_left values (b ∷ []) false v (omega (arith, a.count)))) (a.same v d)
    | inr d ↦
        let e : v ≡ n = omega arith in
        subst (λ (c : Bool). IsValue t v c) (sym (get_or_at values b [] false v (omega (arith, a.count, e)))) (subst (λ (m : ℕ). IsValue t m b) (sym e) i)
  ];
}

odd-opposite : (l : ℕ) → l % 2 ≡ 1 → l ≡ opposite_of (2 * (l / 2))
odd-opposite l e = elim (opposite_of-cases (2 * (l / 2))) [ inl h ↦ omega (arith, e, h.0, h.1) | inr h ↦ omega (arith, e, h.0) ]

value-suc : (values : List Bool) (n : ℕ) → value_in values (suc n) ≡ get_or values n false
value-suc values n = let e : suc n - 1 ≡ n = omega arith in ap (λ (k : ℕ). get_or values k false) e

pub agrees-all : (t : Trail) (values : List Bool) (n : ℕ) → IsTrail t → n ≡ t.variables → AgreesBelow t values n → Agrees t values
agrees-all t values n u e a = record {
  count = a.count ∙ e;
  same = λ l m. elim (opposite_of-cases l) [
    | inl f ↦
        let g : l ≡ 2 * (l / 2) = omega (arith, f.0) in
        let b : get_or values (l / 2) false ≡ true = (a.same (l / 2) (omega (arith, trail-within t u l m))).yes
        (subst (λ (x : ℕ). Contains t.literals x) g m) in
        ap (literal_true (value_in values)) (even-literal l f.0) ∙ value-suc values (l / 2) ∙ b
    | inr f ↦
        let g : l ≡ opposite_of (2 * (l / 2)) = odd-opposite l f.0 in
        let b : get_or values (l / 2) false ≡ false = (a.same (l / 2) (omega (arith, trail-within t u l m))).no
        (subst (λ (x : ℕ). Contains t.literals x) g m) in
        ap (literal_true (value_in values)) (odd-literal l f.0) ∙ ap not (value-suc values (l / 2) ∙ b)
  ];
}
