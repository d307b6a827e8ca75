-- Each part of an expression has fewer nodes than the expression.
use Rattle.std.specs.Prelude.{◌≤◌, max}
use Rattle.std.proofs.Common.{arith}
use Rattle.tc_code.specs.Expr.{size}
use Rattle.tc_code.specs.Node.{expr_of}
use Rattle.tc_code.specs.declared.expr.Node.{Node}
use Rattle.tc_code.specs.declared.expr.Node.TheVariants.{Number, Slot, Unary, Binary}
use Rattle.tc_code.specs.declared.expr.Expr.TheDeep.{deep-Node}

pub depth_le-size : (n : Node) → max (deep-Node n) 0 ≤ size (expr_of n)
depth_le-size (Number n) = omega arith
depth_le-size (Slot k) = omega arith
depth_le-size (Unary op a) = omega arith
depth_le-size (Binary op a b) = omega arith
