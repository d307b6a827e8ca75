-- The plain expression that an expression in memory represents.
use Rattle.tc_code.specs.Expr as plain
use Rattle.tc_code.specs.declared.expr.Node.{Node}
use Rattle.tc_code.specs.declared.expr.Node.TheVariants.{Number, Slot, Unary, Binary}

abbrev pub expr_of : Node → plain.Expr
expr_of (Number n) = plain.Number n
expr_of (Slot k) = plain.Slot k
expr_of (Unary op a) = plain.Unary op a.value
expr_of (Binary op a b) = plain.Binary op a.value b.value
