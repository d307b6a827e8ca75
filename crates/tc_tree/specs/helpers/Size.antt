-- How many nodes an expression has.
use Rattle.std.specs.Prelude.{ℕ, ◌+◌}
use Rattle.tc_tree.specs.Grammar.{Expression, Number, Variable, Element, Paren, Unary, Binary}

abbrev pub size : Expression → ℕ
size (Number _) = 1
size (Variable _) = 1
size (Element _ i) = size i + 1
size (Paren e) = size e + 1
size (Unary _ a) = size a + 1
size (Binary _ a b) = size a + size b + 1
