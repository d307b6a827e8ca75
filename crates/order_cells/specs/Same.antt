-- Whether two accesses are to the same cell in every world, and else the test that decides it.
use Rattle.std.specs.Prelude.{ℕ, ℤ, List, Option, Some, None, Bool, true, false, ◌==◌, is_none, option_map, option_and_then, slice_get, if◌then◌else◌}
use Rattle.std.specs.Ordering.{int_eq}
use Rattle.int_ops.specs.declared.arith.BinOp.TheVariants.{Eq}
use Rattle.sym_terms.specs.declared.node.Node.{Node}
use Rattle.sym_terms.specs.declared.node.Node.TheVariants.{Constant, Binary}
use Rattle.sym_exec.specs.tc_code.declared.cell.Cell.{Cell}
use Rattle.sym_exec.specs.tc_code.declared.cell.Cell.TheVariants.{Fixed, Element}

-- the value of a node, if it is a constant
abbrev pub number_in : Node → Option ℤ
number_in (Constant n) = Some n
number_in _ = None

-- the value of a term, if it is a constant
abbrev pub constant_of : List Node → ℕ → Option ℤ
constant_of nodes term = option_and_then number_in (slice_get nodes term)

-- whether two terms are equal, if known: they are the same term, or both are constants
abbrev pub known_equal : List Node → (a b : ℕ) → Option Bool
known_equal nodes a b =
    if a == b then Some true
    else option_and_then (λ m. option_map (int_eq m) (constant_of nodes b)) (constant_of nodes a)

-- whether two cells are the same, if known
abbrev pub known_same : List Node → Cell ℕ → Cell ℕ → Option Bool
known_same nodes (Fixed c) (Fixed d) = Some (c == d)
known_same nodes (Element f m i) (Element g n j) =
    if f == g then known_equal nodes i j else Some false
known_same nodes _ _ = Some false

-- the test that the indexes of two elements are equal, if that isn't known
abbrev pub same_test : List Node → Cell ℕ → Cell ℕ → Option Node
same_test nodes (Element f m i) (Element g n j) =
    if is_none (known_same nodes (Element f m i) (Element g n j)) then Some (Binary Eq i j)
    else None
same_test nodes _ _ = None
