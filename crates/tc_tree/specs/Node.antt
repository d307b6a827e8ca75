-- The plain expression that an expression in memory represents.
use Rattle.tc_tree.specs.Grammar as plain
use Rattle.tc_tree.specs.declared.expression.Node.{Node}
use Rattle.tc_tree.specs.declared.expression.Node.TheVariants.{Number, Variable, Element, Paren, Unary, Binary}

abbrev pub expression_of : Node → plain.Expression
expression_of (Number n) = plain.Number n
expression_of (Variable x) = plain.Variable x
expression_of (Element a i) = plain.Element a i.value
expression_of (Paren e) = plain.Paren e.value
expression_of (Unary op e) = plain.Unary op e.value
expression_of (Binary op a b) = plain.Binary op a.value b.value
