-- Each part of an expression has fewer nodes than the expression.
use Rattle.std.specs.Prelude.{◌≤◌, max}
use Rattle.std.proofs.Common.{arith}
use Rattle.tc_tree.specs.Node.{expression_of}
use Rattle.tc_tree.specs.declared.expression.Node.{Node}
use Rattle.tc_tree.specs.declared.expression.Node.TheVariants.{Number, Variable, Element, Paren, Unary, Binary}
use Rattle.tc_tree.specs.declared.expression.Expression.TheDeep.{deep-Node}
use Rattle.tc_tree.specs.helpers.Size.{size}

pub depth_le-size : (n : Node) → max (deep-Node n) 0 ≤ size (expression_of n)
depth_le-size (Number n) = omega arith
depth_le-size (Variable x) = omega arith
depth_le-size (Element a i) = omega arith
depth_le-size (Paren e) = omega arith
depth_le-size (Unary op a) = omega arith
depth_le-size (Binary op a b) = omega arith
