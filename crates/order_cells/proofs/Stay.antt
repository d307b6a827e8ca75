-- What is known of two cells stays the same while terms are added.
use Rattle.std.proofs.Common.{◌≡◌, ◌∙◌, ℕ, ◌<◌, cond, ◌&&◌, ◌==◌, List, ◌++◌, length, Option, Some, None, refl, ap, ap₂, sym, arith}
use Rattle.std.proofs.Common.{length-append, pos, true, false}
use Rattle.std.specs.Prelude.{fold, is_none, option_map, option_and_then, option_to_list}
use Rattle.std.specs.Ordering.{int_eq}
use Rattle.std.proofs.lemmas.List.{get_or_append_left}
use Rattle.std.proofs.lemmas.Option.{slice_get-get_or, IfSome_then}
use Rattle.int_ops.specs.declared.arith.BinOp.TheVariants.{Eq}
use Rattle.sym_terms.specs.Terms.{with_node, id_of}
use Rattle.sym_terms.specs.declared.node.Node.{Node}
use Rattle.sym_terms.specs.declared.node.Node.TheVariants.{Constant, Binary}
use Rattle.sym_terms.proofs.Folds.{keep}
use Rattle.sym_exec.specs.Executed.{Symbolic}
use Rattle.sym_exec.specs.Making.{Grows}
use Rattle.sym_exec.proofs.Grown.{grows_both, stays_within}
use Rattle.sym_exec.specs.declared.symbolic.Access.{Access}
use Rattle.sym_exec.specs.tc_code.declared.cell.Cell.{Cell}
use Rattle.sym_exec.specs.tc_code.declared.cell.Cell.TheVariants.{Fixed, Element}
use Rattle.lawful_order.specs.order_formula.Worlds.{World}
use Rattle.lawful_order.specs.Cells.{is_same_cell}
use Rattle.order_cells.proofs.Needs.{id_made, id_stays, made_there, grows_all}
use Rattle.order_cells.specs.Same.{number_in, constant_of, known_equal, known_same, same_test}
use Rattle.order_cells.specs.Terms.{CellIsOf, AccessIsOf, HaveTerms}

module _ (nodes more : List Node) where
  abbrev all : List Node
  all = nodes ++ more

  constant_stays : (term : ℕ) → term < length nodes → constant_of all term ≡ constant_of nodes term
  constant_stays term below =
      let d : Node = Constant (pos 0) in
      let inside : term < length all = omega (arith, below, length-append nodes more) in
      ap (option_and_then number_in) (slice_get-get_or all term d inside ∙ ap Some (get_or_append_left nodes more d term below)
      ∙ sym (slice_get-get_or nodes term d below))

  equal_stays : (a b : ℕ) → a < length nodes → b < length nodes → known_equal all a b ≡ known_equal nodes a b
  equal_stays a b first second = ap₂ (λ x y. cond (a == b) (Some true) (option_and_then (λ m. option_map (int_eq m) y) x))
      (constant_stays a first) (constant_stays b second)

  pub known_stays : (a b : Cell ℕ) → CellIsOf (length nodes) a → CellIsOf (length nodes) b → known_same all a b ≡ known_same nodes a b
  known_stays (Fixed c) (Fixed d) first second = refl
  known_stays (Fixed c) (Element g n j) first second = refl
  known_stays (Element f m i) (Fixed d) first second = refl
  known_stays (Element f m i) (Element g n j) first second = ap (λ o. cond (f == g) o (Some false)) (equal_stays i j first second)

  pub test_stays : (a b : Cell ℕ) → CellIsOf (length nodes) a → CellIsOf (length nodes) b → same_test all a b ≡ same_test nodes a b
  test_stays (Fixed c) (Fixed d) first second = refl
  test_stays (Fixed c) (Element g n j) first second = refl
  test_stays (Element f m i) (Fixed d) first second = refl
  test_stays (Element f m i) (Element g n j) first second =
      ap (λ o. cond (is_none (cond (f == g) o (Some false))) (Some (Binary Eq i j)) None) (equal_stays i j first second)

  pub same_stays : (w : World) (a b : Cell ℕ) → CellIsOf (length nodes) a → CellIsOf (length nodes) b
      → is_same_cell all w a b ≡ is_same_cell nodes w a b
  same_stays w (Fixed c) (Fixed d) first second = refl
  same_stays w (Fixed c) (Element g n j) first second = refl
  same_stays w (Element f m i) (Fixed d) first second = refl
  same_stays w (Element f m i) (Element g n j) first second =
      ap₂ (λ x y. f == g && int_eq x y) (keep nodes more w.loads i first) (keep nodes more w.loads j second)

-- the id of the test of two cells, once it is made and later
pub made_later : (nodes later : List Node) (a b : Cell ℕ) → CellIsOf (length nodes) a → CellIsOf (length nodes) b
    → Grows (fold with_node nodes (option_to_list (same_test nodes a b))) later
    → option_map (id_of nodes) (same_test nodes a b) ≡ option_map (id_of later) (same_test later a b)
made_later nodes later a b first second g = by (same_test nodes a b) g ∙ sym (ap (option_map (id_of later)) stays)
  where
    up : Grows nodes later
    up = let tests = option_to_list (same_test nodes a b) in grows_both nodes (fold with_node nodes tests) later (grows_all nodes tests) g

    stays : same_test later a b ≡ same_test nodes a b
    stays = ap (λ ns. same_test ns a b) up.1 ∙ test_stays nodes up.0 a b first second

    by : (o : Option Node) → Grows (fold with_node nodes (option_to_list o)) later → option_map (id_of nodes) o ≡ option_map (id_of later) o
    by None g = refl
    by (Some test) g =
        ap Some (sym (id_made nodes test) ∙ sym (id_stays (with_node nodes test) later test g (made_there nodes test)))

-- the terms of an access stay terms
cell_later : (nodes later : List Node) (c : Cell ℕ) → Grows nodes later → CellIsOf (length nodes) c → CellIsOf (length later) c
cell_later nodes later (Fixed c) g below = tt
cell_later nodes later (Element f m i) g below = stays_within nodes later i g below

pub access_later : (nodes later : List Node) → Grows nodes later → (a : Access) → AccessIsOf (length nodes) a → AccessIsOf (length later) a
access_later nodes later g a of = record {
  cell = cell_later nodes later a.cell g of.cell;
  writes = IfSome_then a.writes of.writes (λ written below. stays_within nodes later written g below);
}

pub have_later : (nodes later : List Node) (symbolic : Symbolic) → Grows nodes later → HaveTerms nodes symbolic → HaveTerms later symbolic
have_later nodes later symbolic g have t a there = access_later nodes later g a (have t a there)
