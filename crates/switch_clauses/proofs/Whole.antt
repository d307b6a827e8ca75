-- The clauses of a formula extend those of its order.
use Rattle.std.proofs.Common.{◌≡◌, ◌∙◌, ℕ, ◌<◌, ◌≤◌, true, List, [], ◌∷◌, ℤ, map, refl, arith}
use Rattle.std.specs.List.{All, list_all, range_with_len}
use Rattle.std.proofs.lemmas.Bool.{and_from, le-leb}
use Rattle.std.proofs.lemmas.List.Elements.{All-head, All-map, All-tail}
use Rattle.std.proofs.lemmas.List.Folds.{list_all-append}
use Rattle.clap_solve.specs.sym_terms.declared.node.Node.{Node}
use Rattle.clap_solve.specs.order_formula.declared.formula.Conjunct.{Conjunct}
use Rattle.clap_solve.specs.cnf_core.Clauses.{Formula, Valuation, is_within, satisfies, var_of}
use Rattle.clap_solve.specs.cnf_core.Gates.{IsOver}
use Rattle.clap_solve.specs.bit_gates.Extended.{IsExtended}
use Rattle.clap_solve.specs.bit_gates.Laws.{IsModel, IsOf}
use Rattle.clap_solve.proofs.bit_gates.Extended.{gates-extend}
use Rattle.clap_solve.specs.bit_order.Comparators.{ordered}
use Rattle.clap_solve.specs.bit_order.Laws.{LiteralsMean}
use Rattle.clap_solve.specs.bit_order.Layouts.{Layout, base, load_word}
use Rattle.clap_solve.specs.bit_order.Readings.{world_of}
use Rattle.clap_solve.proofs.bit_order.Compared.{base_some}
use Rattle.clap_solve.proofs.bit_order.Meaning.{base-over, literals-mean}
use Rattle.clap_solve.proofs.bit_order.Three.{ordered-extended}
use Rattle.clap_solve.specs.bit_ops.Laws.{IsOperand}
use Rattle.clap_solve.specs.bit_terms.Laws.{HaveInts}
use Rattle.clap_solve.proofs.bit_terms.Meaning.{terms-mean}
use Rattle.clap_solve.specs.bit_blast.Laws.{AreRoots}
use Rattle.clap_solve.specs.bit_blast.Whole.{IsReady, load_words, clauses_with_roots, clauses_with_terms, all_clauses}
use Rattle.clap_solve.proofs.bit_blast.Prefixes.{first_part}
use Rattle.clap_solve.proofs.bit_blast.WholeLaws.{all_range, all_roots, first_true}

units_within : (n : ℕ) (ls : List ℤ) → All (IsOf n) ls → list_all (is_within n) (map (λ l. l ∷ []) ls) ≡ true
units_within n [] of = refl
units_within n (l ∷ ls) of =
    and_from (is_within n (l ∷ [])) (list_all (is_within n) (map (λ l. l ∷ []) ls))
    (and_from _ true (le-leb (var_of l) n (All-head (IsOf n) l ls of).1) refl) (units_within n ls (All-tail (IsOf n) l ls of))

module _ (y : Layout) (nodes : List Node) (formula : List Conjunct) (h : IsReady y nodes formula) where
  order : IsExtended (base y) (ordered y)
  order = ordered-extended y h.order

  some : 0 < (ordered y).vars
  some = let a : 0 < (base y).vars = base_some y in omega (arith, a, order.more)

  loads : All (IsOperand (ordered y)) (load_words y)
  loads =
      let literals : LiteralsMean y = literals-mean y h.order in
      All-map (IsOperand (ordered y)) (load_word y) (range_with_len 0 y.loads)
      (all_range (λ k. IsOperand (ordered y) (load_word y k)) 0 y.loads
      (λ k below. record { literals = literals.load_there k (omega (arith, below)); width = literals.load_wide k }))

  abbrev g : Formula
  g = (clauses_with_terms y nodes).formula

  grown : IsExtended (ordered y) g
  grown =
      let terms : HaveInts nodes (load_words y) (ordered y) (clauses_with_terms y nodes) = terms-mean nodes (load_words y) (ordered y) some h.ints loads in
      gates-extend (ordered y) g some terms.grown

  roots : AreRoots nodes (world_of y) g (clauses_with_roots y nodes formula) formula
  roots = all_roots y nodes formula h

  pub over : IsOver (all_clauses y nodes formula)
  over =
      list_all-append (is_within (all_clauses y nodes formula).vars) (clauses_with_roots y nodes formula).state.clauses (map (λ l. l ∷ []) (clauses_with_roots y nodes formula).word)
      ∙ and_from _ _ (roots.over (grown.over (order.over (base-over y)))) (units_within (all_clauses y nodes formula).vars (clauses_with_roots y nodes formula).word roots.literals)

  pub more : (ordered y).vars ≤ (all_clauses y nodes formula).vars
  more = omega (arith, grown.more, roots.more)

  first : (v : Valuation) → satisfies v (all_clauses y nodes formula).clauses ≡ true → satisfies v (clauses_with_roots y nodes formula).state.clauses ≡ true
  first v all = first_part v (clauses_with_roots y nodes formula).state.clauses (map (λ l. l ∷ []) (clauses_with_roots y nodes formula).word) all

  pub before : (v : Valuation) → IsModel v (all_clauses y nodes formula) → IsModel v (ordered y)
  before v m = grown.before v (roots.before v (record { one = m.one; all = first v m.all }))

  pub model : (v : Valuation) → satisfies v (all_clauses y nodes formula).clauses ≡ true → IsModel v (all_clauses y nodes formula)
  model v all = record { one = first_true y nodes formula h v (first v all); all = all }
