-- Terms as a list of nodes. A term is the index of its node, and a node names only earlier terms.
use Rattle.std.specs.Prelude.{◌≡◌, ℕ, ◌<◌, Bool, false, ◌&&◌, ◌==◌, if◌then◌else◌, List, [], ◌∷◌, ◌++◌, Some, slice_get}
use Rattle.std.specs.List.{list_any, position_or_len, IsDistinct}
use Rattle.std.specs.Ordering.{int_eq}
use Rattle.int_ops.specs.Arith.{same_unary, same_binary}
use Rattle.sym_terms.specs.declared.node.Node.{Node}
use Rattle.sym_terms.specs.declared.node.Node.TheVariants.{Constant, Symbol, Unary, Binary}

-- whether two nodes are the same
abbrev pub same_node : Node → Node → Bool
same_node (Constant m) (Constant n) = int_eq m n
same_node (Symbol j) (Symbol k) = j == k
same_node (Unary op a) (Unary oq c) = same_unary op oq && a == c
same_node (Binary op a b) (Binary oq c d) = same_binary op oq && (a == c && b == d)
same_node _ _ = false

-- every term that a node names is less than `place`
abbrev pub NamesBelow : ℕ → Node → Type 0
NamesBelow place (Constant _) = Unit {0}
NamesBelow place (Symbol _) = Unit {0}
NamesBelow place (Unary _ a) = a < place
NamesBelow place (Binary _ a b) = (a < place) × (b < place)

-- nodes without duplicates, each of which names only earlier nodes
pub record AreTerms (nodes : List Node) : Type 0 where
  pub distinct : IsDistinct same_node nodes
  pub earlier : (id : ℕ) (node : Node) → slice_get nodes id ≡ Some node → NamesBelow id node

-- the nodes, with a node appended if it isn't there already
abbrev pub with_node : List Node → Node → List Node
with_node nodes node = if list_any (same_node node) nodes then nodes else nodes ++ node ∷ []

-- the index of a node in the list, or the list's length if it isn't there
abbrev pub id_of : List Node → Node → ℕ
id_of nodes node = position_or_len (same_node node) nodes
