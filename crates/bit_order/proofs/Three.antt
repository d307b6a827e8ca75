-- Comparators imply transitivity, so its clauses exclude nothing.
use Rattle.std.proofs.Common.{◌≡◌, ℕ, ◌+◌, ◌-◌, ◌<◌, ◌≤◌, Bool, true, false, not, List, [], ◌∷◌, ◌++◌, ℤ, neg_ℤ, Option, Some, None, refl, ap, sym, ◌∙◌, arith, get_or, min, max}
use Rattle.std.specs.Prelude.{◌&&◌, ◌||◌, IfSome}
use Rattle.std.specs.List.{All, list_all, list_any, flat_map, range_with_len}
use Rattle.std.proofs.lemmas.Bool.{and_from, and_parts, eq-eqb}
use Rattle.std.proofs.lemmas.List.Elements.{All-nil, All-cons, All-weaker, All-get_or}
use Rattle.std.proofs.lemmas.List.Folds.{list_all-append, list_any_at}
use Rattle.std.proofs.lemmas.List.Sums.{list_all-from_AllPass}
use Rattle.cnf_core.specs.Clauses.{var_of, Formula, Valuation, literal_true, clause_true, satisfies, is_within}
use Rattle.cnf_core.proofs.GateLaws.{literal_true-neg}
use Rattle.bit_gates.specs.Extended.{IsExtended}
use Rattle.bit_gates.specs.Laws.{IsModel, IsOf}
use Rattle.bit_gates.proofs.Blocks.{IsOf-opposite}
use Rattle.bit_gates.proofs.Extended.{extended_twice, gates-extend}
use Rattle.bit_words.specs.Laws.{value}
use Rattle.bit_ranks.proofs.Order.{before_again, not_before_again}
use Rattle.order_formula.specs.Orders.{IsOrder, PairIsOf, pair_of, same_pair}
use Rattle.order_formula.specs.declared.order.Pair.{Pair}
use Rattle.bit_order.specs.Clauses.{folded_clause}
use Rattle.bit_order.specs.Layouts.{Layout, position_word, base}
use Rattle.bit_order.specs.Comparators.{comparators, comparator, before_literal, clauses_of_three, where_asked, transitive, transitivity, ordered}
use Rattle.bit_order.proofs.ClauseLaws.{clauses-mean, folded_within}
use Rattle.bit_order.proofs.Compared.{comes_first, base_some, comparators_grown, IsComparator, comparator_is, before_is_there, before_is}
use Rattle.bit_order.proofs.Ranges.{list_all-flat_map, range_all}

three_values : (a b c : Bool) → (a ≡ true → b ≡ true → c ≡ true) → (a ≡ false → b ≡ false → c ≡ false)
    → ((not a || (not b || (c || false))) && (a || (b || (not c || false)))) ≡ true
three_values true true c h k = rw (h refl refl) refl
three_values true false c h k = refl
three_values false true c h k = refl
three_values false false c h k = rw (k refl refl) refl

three_literals : (P : ℤ → Type 0) (a b c : ℤ) → P a → P b → P c → All P (a ∷ b ∷ c ∷ [])
three_literals P a b c p q r = All-cons P a (b ∷ c ∷ []) p (All-cons P b (c ∷ []) q (All-cons P c [] r (All-nil P)))

-- the clauses of three literals
module _ (n : ℕ) (a b c : ℤ) (p : IsOf n a) (q : IsOf n b) (r : IsOf n c) where
  forth : All (IsOf n) (neg_ℤ a ∷ neg_ℤ b ∷ c ∷ [])
  forth = three_literals (IsOf n) (neg_ℤ a) (neg_ℤ b) c (IsOf-opposite n a p) (IsOf-opposite n b q) r

  back : All (IsOf n) (a ∷ b ∷ neg_ℤ c ∷ [])
  back = three_literals (IsOf n) a b (neg_ℤ c) p q (IsOf-opposite n c r)

  three_true : (w : Valuation) → w 1 ≡ true → (literal_true w a ≡ true → literal_true w b ≡ true → literal_true w c ≡ true)
      → (literal_true w a ≡ false → literal_true w b ≡ false → literal_true w c ≡ false) → satisfies w (clauses_of_three a b c) ≡ true
  three_true w one h k =
      let last : Bool = literal_true w a || (literal_true w b || (literal_true w (neg_ℤ c) || false)) in
      list_all-append (clause_true w) (folded_clause (neg_ℤ a ∷ neg_ℤ b ∷ c ∷ [])) (folded_clause (a ∷ b ∷ neg_ℤ c ∷ []))
      ∙ ap (λ e. e && satisfies w (folded_clause (a ∷ b ∷ neg_ℤ c ∷ []))) (clauses-mean w n (neg_ℤ a ∷ neg_ℤ b ∷ c ∷ []) one forth)
      ∙ ap (λ e. clause_true w (neg_ℤ a ∷ neg_ℤ b ∷ c ∷ []) && e) (clauses-mean w n (a ∷ b ∷ neg_ℤ c ∷ []) one back)
      ∙ ap (λ e. (e || (literal_true w (neg_ℤ b) || (literal_true w c || false))) && last) (literal_true-neg w a p.0)
      ∙ ap (λ e. (not (literal_true w a) || (e || (literal_true w c || false))) && last) (literal_true-neg w b q.0)
      ∙ ap (λ e. (not (literal_true w a) || (not (literal_true w b) || (literal_true w c || false)))
      && (literal_true w a || (literal_true w b || (e || false)))) (literal_true-neg w c r.0)
      ∙ three_values (literal_true w a) (literal_true w b) (literal_true w c) h k

  three_within : list_all (is_within n) (clauses_of_three a b c) ≡ true
  three_within =
      list_all-append (is_within n) (folded_clause (neg_ℤ a ∷ neg_ℤ b ∷ c ∷ [])) (folded_clause (a ∷ b ∷ neg_ℤ c ∷ []))
      ∙ and_from _ _ (folded_within n (neg_ℤ a ∷ neg_ℤ b ∷ c ∷ []) (All-weaker (IsOf n) (λ l. var_of l ≤ n) (λ l o. o.1) (neg_ℤ a ∷ neg_ℤ b ∷ c ∷ []) forth))
      (folded_within n (a ∷ b ∷ neg_ℤ c ∷ []) (All-weaker (IsOf n) (λ l. var_of l ≤ n) (λ l o. o.1) (a ∷ b ∷ neg_ℤ c ∷ []) back))

-- if the clauses of any three literals pass a test, those for literals that are asked about do
where_passes : (test : List ℤ → Bool) (P Q : ℤ → Type 0) (a : ℤ) (b c : Option ℤ) → IfSome b P → IfSome c Q
    → ((k l : ℤ) → P k → Q l → list_all test (clauses_of_three a k l) ≡ true) → list_all test (where_asked a b c) ≡ true
where_passes test P Q a None c p q h = refl
where_passes test P Q a (Some k) None p q h = refl
where_passes test P Q a (Some k) (Some l) p q h = h k l p q

-- implied clauses exclude nothing
implied_extended : (f : Formula) (cs : List (List ℤ)) → list_all (is_within f.vars) cs ≡ true → ((w : Valuation) → IsModel w f → satisfies w cs ≡ true)
    → IsExtended f (record { vars = f.vars; clauses = f.clauses ++ cs })
implied_extended f cs within follow = record {
  more = omega arith;
  over = λ o. list_all-append (is_within f.vars) f.clauses cs ∙ and_from (list_all (is_within f.vars) f.clauses) (list_all (is_within f.vars) cs) o within;
  before = λ w m. record {
    one = m.one;
    all = (and_parts (satisfies w f.clauses) (satisfies w cs) (sym (list_all-append (clause_true w) f.clauses cs) ∙ m.all)).0;
  };
  extends = λ v o m. (
    v,
    record {
      one = m.one;
      all = list_all-append (clause_true v) f.clauses cs ∙ and_from (satisfies v f.clauses) (satisfies v cs) m.all (follow v m);
    },
    λ k h. refl,
  );
}

-- values that satisfy all clauses satisfy those of the comparators
pub comparators-before : (y : Layout) (w : Valuation) → IsModel w (ordered y) → IsModel w (comparators y).state
comparators-before y w m = record {
  one = m.one;
  all = (and_parts (satisfies w (comparators y).state.clauses) (satisfies w (transitivity y))
      (sym (list_all-append (clause_true w) (comparators y).state.clauses (transitivity y)) ∙ m.all)).0;
}

module _ (y : Layout) (lawful : IsOrder y.order) where
  -- the clauses of each pair and each event after it pass a test
  all_pass : (test : List ℤ → Bool)
      → ((p : Pair) (third : ℕ) → PairIsOf y.order.events p → list_any (same_pair (pair_of p.lesser p.greater)) y.order.pairs ≡ true → p.greater < third
      → list_all test (transitive y p third) ≡ true)
      → list_all test (transitivity y) ≡ true
  all_pass test each =
      let thirds : Pair → List ℕ = λ p. range_with_len (p.greater + 1) (y.order.events - (p.greater + 1)) in
      list_all-flat_map test (λ p. flat_map (transitive y p) (thirds p)) y.order.pairs
      ∙ list_all-from_AllPass (λ p. list_all test (flat_map (transitive y p) (thirds p))) y.order.pairs (λ i d less.
      let p : Pair = get_or y.order.pairs i d in
      let within : PairIsOf y.order.events p = All-get_or (PairIsOf y.order.events) y.order.pairs i d less lawful.pairs_within in
      let low : min p.lesser p.greater ≡ p.lesser = omega (arith, within.ordered) in
      let high : max p.lesser p.greater ≡ p.greater = omega (arith, within.ordered) in
      let asked = list_any_at (same_pair (pair_of p.lesser p.greater)) y.order.pairs i d less
      (and_from _ _ (eq-eqb (min p.lesser p.greater) p.lesser low) (eq-eqb (max p.lesser p.greater) p.greater high)) in
      list_all-flat_map test (transitive y p) (thirds p)
      ∙ range_all (λ third. list_all test (transitive y p third)) (p.greater + 1) (y.order.events - (p.greater + 1))
      (λ third above _. each p third within asked (omega (arith, above))))

  -- comparators make their order transitive
  transitive_here : (test : List ℤ → Bool) (p : Pair) (third : ℕ) → PairIsOf y.order.events p → p.greater < third
      → ((k l : ℤ) → IsComparator y lawful p.greater third k → IsComparator y lawful p.lesser third l
      → list_all test (clauses_of_three (before_literal y p.lesser p.greater) k l) ≡ true)
      → list_all test (transitive y p third) ≡ true
  transitive_here test p third within above h =
      where_passes test (IsComparator y lawful p.greater third) (IsComparator y lawful p.lesser third) (before_literal y p.lesser p.greater)
      (comparator y p.greater third) (comparator y p.lesser third) (comparator_is y lawful p.greater third) (comparator_is y lawful p.lesser third) h

  transitivity_holds : (w : Valuation) → IsModel w (comparators y).state → satisfies w (transitivity y) ≡ true
  transitivity_holds w m =
      all_pass (clause_true w) (λ p third within asked above. transitive_here (clause_true w) p third within above
      (λ k l second both.
      let a : ℤ = before_literal y p.lesser p.greater in
      let first : literal_true w a ≡ comes_first w p.lesser p.greater = before_is y lawful w m p.lesser p.greater asked in
      let e1 : min p.greater third ≡ p.greater = omega (arith, above) in
      let e2 : max p.greater third ≡ third = omega (arith, above) in
      let e3 : min p.lesser third ≡ p.lesser = omega (arith, above, within.ordered) in
      let e4 : max p.lesser third ≡ third = omega (arith, above, within.ordered) in
      let next : literal_true w k ≡ comes_first w p.greater third =
      second.value w m ∙ ap (λ e. comes_first w e (max p.greater third)) e1 ∙ ap (comes_first w p.greater) e2 in
      let last : literal_true w l ≡ comes_first w p.lesser third =
      both.value w m ∙ ap (λ e. comes_first w e (max p.lesser third)) e3 ∙ ap (comes_first w p.lesser) e4 in
      let bits : ℕ → ℕ = λ event. value w (position_word event) in
      three_true (comparators y).state.vars a k l (before_is_there y lawful p.lesser p.greater) second.there both.there w m.one
      (λ s t. last ∙ before_again bits p.lesser p.greater third (sym first ∙ s) (sym next ∙ t))
      (λ s t. last ∙ not_before_again bits p.lesser p.greater third (sym first ∙ s) (sym next ∙ t))))

  transitivity_within : list_all (is_within (comparators y).state.vars) (transitivity y) ≡ true
  transitivity_within =
      all_pass (is_within (comparators y).state.vars) (λ p third within asked above. transitive_here (is_within (comparators y).state.vars) p third within above
      (λ k l second both. three_within (comparators y).state.vars (before_literal y p.lesser p.greater) k l (before_is_there y lawful p.lesser p.greater)
      second.there both.there))

  pub ordered-extended : IsExtended (base y) (ordered y)
  ordered-extended =
      extended_twice (base y) (comparators y).state (ordered y)
      (gates-extend (base y) (comparators y).state (base_some y) (comparators_grown y lawful))
      (implied_extended (comparators y).state (transitivity y) transitivity_within transitivity_holds)
