-- Values of terms, given the values that the loads took.
use Rattle.std.specs.Prelude.{◌≡◌, ℕ, List, [], ◌∷◌, ◌++◌, ℤ, pos, fold, get_or, length, take}
use Rattle.int_ops.specs.Arith.{unary, binary}
use Rattle.sym_terms.specs.declared.node.Node.{Node}
use Rattle.sym_terms.specs.declared.node.Node.TheVariants.{Constant, Symbol, Unary, Binary}

-- the value of a node, given those of earlier nodes and of the loads; a missing one counts as 0
abbrev pub node_value : (known loads : List ℤ) → Node → ℤ
node_value known loads (Constant n) = n
node_value known loads (Symbol load) = get_or loads load (pos 0)
node_value known loads (Unary op a) = unary op (get_or known a (pos 0))
node_value known loads (Binary op a b) = binary op (get_or known a (pos 0)) (get_or known b (pos 0))

-- the value of each node, in order
abbrev pub values_of : (nodes : List Node) (loads : List ℤ) → List ℤ
values_of nodes loads = fold (λ known node. known ++ node_value known loads node ∷ []) [] nodes

-- the value of a term
abbrev pub value_of : (nodes : List Node) (loads : List ℤ) → ℕ → ℤ
value_of nodes loads id = get_or (values_of nodes loads) id (pos 0)

-- the values of the loads and of the first nodes, and the number of nodes that there is room for
pub record Table : Type 0 where
  pub symbols : List ℤ
  pub known : List ℤ
  pub room : ℕ

-- the table's values of nodes are right, given its values of loads
abbrev pub AreKnown : List Node → Table → Type 0
AreKnown nodes table = table.known ≡ values_of (take (length table.known) nodes) table.symbols
