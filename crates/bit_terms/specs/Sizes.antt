-- Upper bounds on the variables, and on the clauses, that the circuits of terms add.
use Rattle.std.specs.Prelude.{ℕ, List, sum_by}
use Rattle.sym_terms.specs.declared.node.Node.{Node}
use Rattle.sym_terms.specs.declared.node.Node.TheVariants.{Constant, Symbol, Unary, Binary}
use Rattle.bit_ops.specs.Sizes.{unary_size, binary_size}

-- constants and loads need no circuit
abbrev pub node_size : Node → ℕ
node_size (Constant _) = 0
node_size (Symbol _) = 0
node_size (Unary op _) = unary_size op
node_size (Binary op _ _) = binary_size op

abbrev pub terms_size : List Node → ℕ
terms_size nodes = sum_by node_size nodes
