-- The literals of a mutex and the ranges of its indexes together: their room, and what they make.
use Rattle.std.proofs.Common.{◌≡◌, ℕ, ◌+◌, ◌*◌, ◌≤◌, List, ℤ, refl, ap, sym, ◌∙◌, subst, arith, length}
use Rattle.std.specs.Prelude.{filter, true}
use Rattle.path_walk.specs.Paths.{Paths}
use Rattle.path_walk.specs.declared.event.Region.{Region}
use Rattle.sym_exec.specs.Executed.{Symbolic}
use Rattle.sym_exec.specs.declared.symbolic.Access.{Access}
use Rattle.order_formula.specs.declared.formula.Conjunct.{Conjunct}
use Rattle.order_events.specs.lawful_order.Events.{Placed}
use Rattle.cnf_core.specs.Clauses.{Formula}
use Rattle.bit_gates.specs.Folded.{HasRoom, IsLarger, constant, kept}
use Rattle.bit_words.proofs.Loops.{kept_same}
use Rattle.bit_order.specs.Layouts.{Layout}
use Rattle.bit_blast.specs.Drafts.{Draft}
use Rattle.mutex_regions.specs.Functions.{is_used}
use Rattle.mutex_regions.specs.declared.variables.Variable.{Variable}
use Rattle.mutex_states.specs.InOrder.{in_order_made}
use Rattle.mutex_clauses.specs.in_order.Given.{HasLists, HasParts, size_of, used_in}
use Rattle.mutex_clauses.specs.in_order.helpers.Listed.{all_of, of_mutex, with_ranges}
use Rattle.mutex_clauses.proofs.in_order.Same.{made_same}
use Rattle.mutex_clauses.proofs.in_order.Sizes.{all_used, conjuncts, literals_few}

module _ (paths : Paths) (y : Layout) (formula : List Conjunct) (roots : List ℤ) (m : ℕ) (regions : List (Placed Region))
    (vs : List Variable) (accesses : List (Placed Access)) where
  abbrev own : Placed Region → List (Placed Access)
  own r = filter (is_used vs r) accesses

  abbrev literals : List ℤ
  literals = of_mutex paths y formula roots m regions own

  abbrev used : ℕ
  used = all_used paths y formula roots m regions own

  abbrev most : ℕ
  most = conjuncts paths y formula roots m regions own + (length regions + (length regions * length regions + used * (3 + used)))

  abbrev size : ℕ
  size = size_of formula m regions vs accesses

  module _ (ls : List ℤ) (us : List (Placed Access)) (is : ls ≡ literals) (all : us ≡ used_in vs accesses regions) (f : Formula) where
    few : length ls ≤ most
    few = subst (λ (zs : List ℤ). length zs ≤ most) (sym is) (literals_few paths y formula roots m regions own)

    sum : size ≡ most * 3 + used * 387
    sum = refl

    count : length us ≡ used
    count = ap length all

    pub first_room : HasRoom size f → HasRoom (3 * length ls) f
    first_room h = (omega (arith, few, sum, h.0), omega (arith, few, sum, h.1))

    pub second_room : (g : Formula) → HasRoom size f → IsLarger (3 * length ls) f g → HasRoom (387 * length us) g
    second_room g h up = (omega (arith, few, sum, count, h.0, up.1), omega (arith, few, sum, count, h.1, up.2))

    pub both_larger : (g h : Formula) → IsLarger (3 * length ls) f g → IsLarger (387 * length us) g h → IsLarger size f h
    both_larger g h one two =
        (omega (arith, one.0, two.0), omega (arith, few, sum, count, one.1, two.1), omega (arith, few, sum, count, one.2, two.2))

    pub whole : (words : List (List ℤ)) (g : Formula) (first a : ℤ) → first ≡ constant true → g ≡ (all_of f first ls).formula
        → a ≡ (all_of f first ls).literal
        → (symbolic : Symbolic) (d : Draft) → HasLists paths symbolic m regions vs accesses → HasParts d y words roots
        → with_ranges words (kept g a) us ≡ in_order_made paths symbolic formula d m f
    whole words g first a is_true formula_is literal_is symbolic d lists parts =
        ap (λ k. with_ranges words k us)
        (kept_same (all_of f first ls) g a formula_is literal_is ∙ ap (λ l. all_of f l ls) is_true ∙ ap (all_of f (constant true)) is)
        ∙ ap (with_ranges words (all_of f (constant true) literals)) all
        ∙ made_same paths symbolic formula d m f y words roots regions vs accesses lists parts
