-- Every branch and every site has the outcome that the paths want.
use Rattle.std.specs.Prelude.{◌≡◌, ℕ, List, Some, slice_get}
use Rattle.std.specs.List.{Contains}
use Rattle.order_formula.specs.sym_terms.declared.node.Node.{Node}
use Rattle.sym_exec.specs.Alone.{outcome_by}
use Rattle.sym_exec.specs.Executed.{Course, Symbolic}
use Rattle.sym_exec.specs.declared.symbolic.Test.{Test}
use Rattle.order_formula.specs.Worlds.{World}

module _ (symbolic : Symbolic) (nodes : List Node) (w : World) where
  pub record TestRule (t line : ℕ) : Type 0 where
    pub tests : (c : Course) (x : Test) → slice_get symbolic.threads t ≡ Some c
        → Contains c.tests x → x.line ≡ line
        → outcome_by nodes w.loads x ≡ x.wanted
