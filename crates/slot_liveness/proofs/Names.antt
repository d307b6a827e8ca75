-- The slots that the index of a cell and other expressions use.
use Rattle.std.proofs.Common.{◌≡◌, ℕ, List, ◌++◌}
use Rattle.std.specs.Prelude.{◌||◌}
use Rattle.std.specs.List.{list_any}
use Rattle.std.proofs.lemmas.List.Folds.{list_any-append}
use Rattle.tc_code.specs.Expr.{Expr, names_slot}
use Rattle.tc_code.specs.Lawful.{index_of}
use Rattle.tc_code.specs.declared.cell.Cell.{Cell}

pub names_both : (k : ℕ) (c : Cell Expr) (es : List Expr)
    → list_any (names_slot k) (index_of c ++ es) ≡ (list_any (names_slot k) (index_of c) || list_any (names_slot k) es)
names_both k c es = list_any-append (names_slot k) (index_of c) es
