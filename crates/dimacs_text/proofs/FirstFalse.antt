-- The first false clause of a list.
use Rattle.std.proofs.Common.{◌≡◌, ℕ, zero, suc, ℤ, true, false, List, [], ◌∷◌, take, IsTrue, refl, sym, ◌∙◌, arith}
use Rattle.std.specs.Prelude.{slice_get, Some}
use Rattle.std.proofs.lemmas.Bool.{and_parts, false≢true}
use Rattle.cnf_core.specs.Clauses.{Valuation, clause_true, satisfies}
use Rattle.dimacs_text.specs.Values.{IsFirstFalse}

-- a false clause after true ones is the first
pub first_false_at : (v : Valuation) (cs : List (List ℤ)) (k : ℕ) (c : List ℤ) → slice_get cs k ≡ Some c → satisfies v (take k cs) ≡ true
    → clause_true v c ≡ false → IsFirstFalse v cs k
first_false_at v [] k c at before f = absurd cc
first_false_at v (d ∷ cs) zero c at before f = record { there = omega arith; before = refl; not_true = grind arith }
first_false_at v (d ∷ cs) (suc k) c at before f =
    let own = and_parts (clause_true v d) (satisfies v (take k cs)) before in
    let r = first_false_at v cs k c at own.1 f in
    record { there = omega (arith, r.there); before = before; not_true = r.not_true }

-- a list with a first false clause isn't satisfied
pub unsatisfied : (v : Valuation) (cs : List (List ℤ)) (k : ℕ) → IsFirstFalse v cs k → satisfies v cs ≡ false
unsatisfied v [] k f = absurd (omega (arith, f.there))
unsatisfied v (d ∷ cs) zero f = rw f.not_true refl
unsatisfied v (d ∷ cs) (suc k) f =
    let own = and_parts (clause_true v d) (satisfies v (take k cs)) f.before in
    rw (own.0, unsatisfied v cs k (record { there = omega (arith, f.there); before = own.1; not_true = f.not_true })) refl

pub false_or_satisfied : (v : Valuation) (cs : List (List ℤ)) (k : ℕ) → IsFirstFalse v cs k → IsTrue (satisfies v cs) → ⊥
false_or_satisfied v cs k f satisfied = false≢true (sym (unsatisfied v cs k f) ∙ satisfied)
