-- When two accesses are to the same cell, and a cell's initial value. Arrays overlap neither each
-- other nor the numbered cells, and their elements are initially 0.
use Rattle.std.specs.Prelude.{ℕ, ℤ, pos, List, get_or, Bool, false, ◌&&◌, ◌==◌}
use Rattle.std.specs.Ordering.{int_eq}
use Rattle.sym_exec.specs.tc_code.Code.{Code}
use Rattle.order_formula.specs.sym_terms.Values.{value_of}
use Rattle.order_formula.specs.sym_terms.declared.node.Node.{Node}
use Rattle.sym_exec.specs.tc_code.declared.cell.Cell.{Cell}
use Rattle.sym_exec.specs.tc_code.declared.cell.Cell.TheVariants.{Fixed, Element}
use Rattle.order_formula.specs.Worlds.{World}

-- elements of the same array are one cell if their indexes have equal values in the world
abbrev pub is_same_cell : List Node → World → Cell ℕ → Cell ℕ → Bool
is_same_cell nodes w (Fixed c) (Fixed d) = c == d
is_same_cell nodes w (Element f m i) (Element g n j) =
    f == g && int_eq (value_of nodes w.loads i) (value_of nodes w.loads j)
is_same_cell nodes w _ _ = false

abbrev pub value_at_start : Code → Cell ℕ → ℤ
value_at_start code (Fixed c) = get_or code.memory c (pos 0)
value_at_start code (Element f m i) = pos 0
