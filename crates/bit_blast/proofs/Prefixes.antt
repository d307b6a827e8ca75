-- Values that satisfy all clauses satisfy the first ones.
use Rattle.std.proofs.Common.{◌≡◌, List, [], ◌∷◌, ◌++◌, ℤ, sym, ◌∙◌, subst, true}
use Rattle.std.proofs.lemmas.Bool.{and_parts}
use Rattle.std.proofs.lemmas.List.Folds.{list_all-append}
use Rattle.cnf_core.specs.Clauses.{Formula, Valuation, clause_true, satisfies}
use Rattle.cnf_core.specs.Gates.{Wired, gate_clauses, after_gate, after_gates}
use Rattle.bit_gates.specs.Laws.{IsGrown}

pub first_part : (w : Valuation) (xs ys : List (List ℤ)) → satisfies w (xs ++ ys) ≡ true → satisfies w xs ≡ true
first_part w xs ys h = (and_parts (satisfies w xs) (satisfies w ys) (sym (list_all-append (clause_true w) xs ys) ∙ h)).0

before_gates : (w : Valuation) (f : Formula) (gs : List Wired) → satisfies w (after_gates f gs).clauses ≡ true → satisfies w f.clauses ≡ true
before_gates w f [] h = h
before_gates w f (g ∷ gs) h = first_part w f.clauses (gate_clauses f.vars g) (before_gates w (after_gate f g) gs h)

pub before_grown : (w : Valuation) (f g : Formula) → IsGrown f g → satisfies w g.clauses ≡ true → satisfies w f.clauses ≡ true
before_grown w f g h s = before_gates w f h.gates (subst (λ (k : Formula). satisfies w k.clauses ≡ true) h.formula s)
