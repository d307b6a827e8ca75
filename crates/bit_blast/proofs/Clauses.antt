-- Formulas with clauses of arbitrary literals.
use Rattle.std.proofs.Common.{◌≡◌, ℕ, ◌≤◌, List, [], ◌∷◌, ℤ, refl, ap, ◌∙◌, true}
use Rattle.std.specs.Prelude.{◌&&◌}
use Rattle.std.specs.List.{All, flat_map, list_all}
use Rattle.std.proofs.lemmas.Bool.{and_from}
use Rattle.std.proofs.lemmas.List.Elements.{All-head, All-tail, All-weaker}
use Rattle.std.proofs.lemmas.List.Folds.{list_all-append}
use Rattle.cnf_core.specs.Clauses.{var_of, Formula, Valuation, clause_true, satisfies, is_within}
use Rattle.cnf_core.specs.Gates.{IsOver}
use Rattle.bit_gates.specs.Laws.{IsOf}
use Rattle.bit_order.specs.Clauses.{folded_clause}
use Rattle.bit_order.proofs.ClauseLaws.{clauses-mean, folded_within}
use Rattle.bit_blast.specs.Reads.{with_clauses}

lists_mean : (w : Valuation) (n : ℕ) (lists : List (List ℤ)) → w 1 ≡ true → All (All (IsOf n)) lists → satisfies w (flat_map folded_clause lists) ≡ satisfies w lists
lists_mean w n [] one a = refl
lists_mean w n (ls ∷ lists) one a =
    list_all-append (clause_true w) (folded_clause ls) (flat_map folded_clause lists)
    ∙ ap (λ k. k && satisfies w (flat_map folded_clause lists)) (clauses-mean w n ls one (All-head (All (IsOf n)) ls lists a))
    ∙ ap (λ k. clause_true w ls && k) (lists_mean w n lists one (All-tail (All (IsOf n)) ls lists a))

lists_within : (n : ℕ) (lists : List (List ℤ)) → All (All (IsOf n)) lists → list_all (is_within n) (flat_map folded_clause lists) ≡ true
lists_within n [] a = refl
lists_within n (ls ∷ lists) a =
    list_all-append (is_within n) (folded_clause ls) (flat_map folded_clause lists)
    ∙ and_from _ _ (folded_within n ls (All-weaker (IsOf n) (λ l. var_of l ≤ n) (λ l o. o.1) ls (All-head (All (IsOf n)) ls lists a)))
    (lists_within n lists (All-tail (All (IsOf n)) ls lists a))

pub with_satisfied : (w : Valuation) (f : Formula) (lists : List (List ℤ)) → w 1 ≡ true → All (All (IsOf f.vars)) lists
    → satisfies w (with_clauses f lists).clauses ≡ (satisfies w f.clauses && satisfies w lists)
with_satisfied w f lists one a =
    list_all-append (clause_true w) f.clauses (flat_map folded_clause lists) ∙ ap (λ k. satisfies w f.clauses && k) (lists_mean w f.vars lists one a)

pub with_over : (f : Formula) (lists : List (List ℤ)) → All (All (IsOf f.vars)) lists → IsOver f → IsOver (with_clauses f lists)
with_over f lists a h = list_all-append (is_within f.vars) f.clauses (flat_map folded_clause lists) ∙ and_from _ _ h (lists_within f.vars lists a)
