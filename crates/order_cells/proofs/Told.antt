-- What is known of two cells holds in every world, and the test decides the rest.
use Rattle.std.proofs.Common.{◌≡◌, ℕ, ℤ, pos, Bool, true, false, cond, not, ◌&&◌, ◌==◌, List, get_or, Option, Some, None, refl, ap, ap₂}
use Rattle.std.proofs.Common.{sym, subst, ◌∙◌}
use Rattle.std.specs.Prelude.{is_some, is_none, option_map, option_and_then, slice_get}
use Rattle.std.specs.List.{Contains}
use Rattle.std.specs.Ordering.{int_eq}
use Rattle.std.proofs.lemmas.Bool.{eqb-true}
use Rattle.std.proofs.lemmas.Bool.Decides.{Decides-int_eq}
use Rattle.std.proofs.lemmas.Option.{none-some, same_Some, slice_get_within, get_or_from_slice_get, option_and_then_some, cond_some}
use Rattle.int_ops.specs.Arith.{truth}
use Rattle.int_ops.specs.declared.arith.BinOp.TheVariants.{Eq}
use Rattle.sym_terms.specs.Terms.{AreTerms, NamesBelow, id_of}
use Rattle.sym_terms.specs.Values.{value_of, values_of, node_value}
use Rattle.sym_terms.specs.declared.node.Node.{Node}
use Rattle.sym_terms.specs.declared.node.Node.TheVariants.{Constant, Symbol, Unary, Binary}
use Rattle.sym_terms.proofs.Folds.{of_node}
use Rattle.sym_exec.specs.tc_code.declared.cell.Cell.{Cell}
use Rattle.sym_exec.specs.tc_code.declared.cell.Cell.TheVariants.{Fixed, Element}
use Rattle.lawful_order.specs.order_formula.Truth.{passes_at}
use Rattle.lawful_order.specs.order_formula.Worlds.{World}
use Rattle.lawful_order.specs.Cells.{is_same_cell}
use Rattle.order_cells.proofs.Needs.{value_there}
use Rattle.order_cells.specs.Same.{number_in, constant_of, known_equal, known_same, same_test}

module _ (nodes : List Node) (w : World) where
  abbrev value : ℕ → ℤ
  value term = value_of nodes w.loads term

  -- a constant has its value
  number_at : (term : ℕ) (node : Node) (n : ℤ) → slice_get nodes term ≡ Some node → number_in node ≡ Some n → value term ≡ n
  number_at term (Constant m) n at is =
      let node : get_or nodes term (Constant m) ≡ Constant m = get_or_from_slice_get nodes term (Constant m) (Constant m) at in
      of_node nodes w.loads term (Constant m) (slice_get_within nodes term (Constant m) at) (subst (λ x. NamesBelow term x) (sym node) tt)
      ∙ ap (node_value (values_of nodes w.loads) w.loads) node ∙ same_Some m n is
  number_at term (Symbol _) n at is = absurd (none-some n is)
  number_at term (Unary _ _) n at is = absurd (none-some n is)
  number_at term (Binary _ _ _) n at is = absurd (none-some n is)

  constant_value : (term : ℕ) (n : ℤ) → constant_of nodes term ≡ Some n → value term ≡ n
  constant_value term n is = option_and_then_some number_in (slice_get nodes term) n is (λ node at number. number_at term node n at number)

  -- two constants
  both_told : (a b : ℕ) (m : ℤ) (o : Option ℤ) (same : Bool) → constant_of nodes a ≡ Some m → constant_of nodes b ≡ o
      → option_map (int_eq m) o ≡ Some same → int_eq (value a) (value b) ≡ same
  both_told a b m None same first second is = absurd (none-some same is)
  both_told a b m (Some n) same first second is =
      ap₂ int_eq (constant_value a m first) (constant_value b n second) ∙ same_Some (int_eq m n) same is

  equal_told : (a b : ℕ) (same : Bool) → known_equal nodes a b ≡ Some same → int_eq (value a) (value b) ≡ same
  equal_told a b same = by (a == b) refl
    where
      by : (t : Bool) → (a == b) ≡ t
          → cond t (Some true) (option_and_then (λ m. option_map (int_eq m) (constant_of nodes b)) (constant_of nodes a)) ≡ Some same
          → int_eq (value a) (value b) ≡ same
      by true one is = (Decides-int_eq (value a) (value b)).1 (ap value (eqb-true a b one)) ∙ same_Some true same is
      by false two is = option_and_then_some (λ m. option_map (int_eq m) (constant_of nodes b)) (constant_of nodes a) same is
          (λ m first both. both_told a b m (constant_of nodes b) same first refl both)

  pub told : (a b : Cell ℕ) (same : Bool) → known_same nodes a b ≡ Some same → is_same_cell nodes w a b ≡ same
  told (Fixed c) (Fixed d) same is = same_Some (c == d) same is
  told (Fixed c) (Element g n j) same is = same_Some false same is
  told (Element f m i) (Fixed d) same is = same_Some false same is
  told (Element f m i) (Element g n j) same is = by (f == g) is
    where
      by : (t : Bool) → cond t (known_equal nodes i j) (Some false) ≡ Some same → (t && int_eq (value i) (value j)) ≡ same
      by true is = equal_told i j same is
      by false is = same_Some false same is

  truth_tells : (p : Bool) → not (int_eq (truth p) (pos 0)) ≡ p
  truth_tells true = refl
  truth_tells false = refl

  pub tested : (a b : Cell ℕ) (test : Node) → AreTerms nodes → same_test nodes a b ≡ Some test → Contains nodes test
      → is_same_cell nodes w a b ≡ passes_at nodes w (id_of nodes test)
  tested (Fixed c) (Fixed d) test are is there = absurd (none-some test is)
  tested (Fixed c) (Element g n j) test are is there = absurd (none-some test is)
  tested (Element f m i) (Fixed d) test are is there = absurd (none-some test is)
  tested (Element f m i) (Element g n j) test are is there = by (f == g) is
    where
      passes : Binary Eq i j ≡ test → int_eq (value i) (value j) ≡ passes_at nodes w (id_of nodes test)
      passes node =
          let v = value_there nodes w.loads are test there ∙ ap (node_value (values_of nodes w.loads) w.loads) (sym node) in
          sym (ap (λ x. not (int_eq x (pos 0))) v ∙ truth_tells (int_eq (value i) (value j)))

      by : (t : Bool) → cond (is_none (cond t (known_equal nodes i j) (Some false))) (Some (Binary Eq i j)) None ≡ Some test
          → (t && int_eq (value i) (value j)) ≡ passes_at nodes w (id_of nodes test)
      by true is = passes (cond_some (is_none (known_equal nodes i j)) (Binary Eq i j) test is).1
      by false is = absurd (none-some test is)

-- there is a test exactly if nothing is known
pub either : (nodes : List Node) (a b : Cell ℕ) → is_some (same_test nodes a b) ≡ is_none (known_same nodes a b)
either nodes (Fixed c) (Fixed d) = refl
either nodes (Fixed c) (Element g n j) = refl
either nodes (Element f m i) (Fixed d) = refl
either nodes (Element f m i) (Element g n j) = by (known_same nodes (Element f m i) (Element g n j))
  where
    by : (o : Option Bool) → is_some (cond (is_none o) (Some (Binary Eq i j)) None) ≡ is_none o
    by None = refl
    by (Some same) = refl
