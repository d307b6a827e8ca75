-- The terms that accesses name.
use Rattle.std.specs.Prelude.{ℕ, ◌<◌, List, length}
use Rattle.std.specs.Option.{IfSome}
use Rattle.sym_terms.specs.declared.node.Node.{Node}
use Rattle.sym_exec.specs.Executed.{Symbolic}
use Rattle.sym_exec.specs.declared.symbolic.Access.{Access}
use Rattle.sym_exec.specs.tc_code.declared.cell.Cell.{Cell}
use Rattle.sym_exec.specs.tc_code.declared.cell.Cell.TheVariants.{Fixed, Element}
use Rattle.lawful_order.specs.Reads.{HasAccess}

-- a cell's index is less than `terms`
abbrev pub CellIsOf : ℕ → Cell ℕ → Type 0
CellIsOf terms (Fixed c) = Unit {0}
CellIsOf terms (Element f m i) = i < terms

-- the index of an access's cell, and the term that it writes, are less than `terms`
pub record AccessIsOf (terms : ℕ) (a : Access) : Type 0 where
  pub cell : CellIsOf terms a.cell
  pub writes : IfSome a.writes (λ written. written < terms)

-- the terms of all accesses are indexes into the nodes
abbrev pub HaveTerms : List Node → Symbolic → Type 0
HaveTerms nodes symbolic =
    (t : ℕ) (a : Access) → HasAccess symbolic t a → AccessIsOf (length nodes) a
