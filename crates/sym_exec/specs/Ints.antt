-- Terms whose constants are in the range of `int`.
use Rattle.std.specs.Prelude.{ℤ, List}
use Rattle.std.specs.List.{All}
use Rattle.int_ops.specs.Arith.{IsInt, bits_xor, bits_and, negated, equal}
use Rattle.sym_terms.specs.declared.node.Node.{Node}
use Rattle.sym_terms.specs.declared.node.Node.TheVariants.{Constant}

-- if a node is a constant, it is an int
abbrev pub HasInt : Node → Type 0
HasInt (Constant n) = IsInt n
HasInt _ = Unit {0}

-- all constants, and all values that the loads take, are ints
pub record AreInts (nodes : List Node) (loads : List ℤ) : Type 0 where
  pub constants : All HasInt nodes
  pub taken : All IsInt loads

-- what the term of a compare-and-exchange gives, by bits: v ^ ((v ^ f) & -(v == e))
abbrev pub exchanged : (v e f : ℤ) → ℤ
exchanged v e f = bits_xor v (bits_and (bits_xor v f) (negated (equal v e)))
