-- The circuit of each operator fits.
use Rattle.std.proofs.Common.{ℕ, ◌≤◌, arith}
use Rattle.int_ops.specs.declared.arith.UnOp.{UnOp}
use Rattle.int_ops.specs.declared.arith.UnOp.TheVariants as un
use Rattle.int_ops.specs.declared.arith.BinOp.{BinOp}
use Rattle.int_ops.specs.declared.arith.BinOp.TheVariants as bin
use Rattle.bit_ops.specs.Sizes.{unary_size, binary_size}

pub unary_most : (op : UnOp) → unary_size op ≤ 28_868
unary_most un.Neg = omega arith
unary_most un.Not = omega arith
unary_most un.Inv = omega arith

pub binary_most : (op : BinOp) → binary_size op ≤ 28_868
binary_most bin.Add = omega arith
binary_most bin.Sub = omega arith
binary_most bin.Mul = omega arith
binary_most bin.Div = omega arith
binary_most bin.Rem = omega arith
binary_most bin.And = omega arith
binary_most bin.Or = omega arith
binary_most bin.Xor = omega arith
binary_most bin.Shl = omega arith
binary_most bin.Shr = omega arith
binary_most bin.Eq = omega arith
binary_most bin.Ne = omega arith
binary_most bin.Lt = omega arith
binary_most bin.Le = omega arith
binary_most bin.Gt = omega arith
binary_most bin.Ge = omega arith
