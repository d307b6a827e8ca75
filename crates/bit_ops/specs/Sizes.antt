-- Upper bounds on the variables, and on the clauses, that the circuit of an operator adds.
use Rattle.std.specs.Prelude.{ℕ}
use Rattle.int_ops.specs.declared.arith.UnOp.{UnOp}
use Rattle.int_ops.specs.declared.arith.UnOp.TheVariants as un
use Rattle.int_ops.specs.declared.arith.BinOp.{BinOp}
use Rattle.int_ops.specs.declared.arith.BinOp.TheVariants as bin

abbrev pub unary_size : UnOp → ℕ
unary_size un.Neg = 544
unary_size un.Not = 96
unary_size un.Inv = 0

abbrev pub binary_size : BinOp → ℕ
binary_size bin.Add = 544
binary_size bin.Sub = 544
binary_size bin.Mul = 21_504
binary_size bin.Div = 28_868
binary_size bin.Rem = 28_864
binary_size bin.And = 128
binary_size bin.Or = 128
binary_size bin.Xor = 128
binary_size bin.Shl = 1_664
binary_size bin.Shr = 1_664
binary_size bin.Eq = 224
binary_size bin.Ne = 224
binary_size bin.Lt = 384
binary_size bin.Le = 384
binary_size bin.Gt = 384
binary_size bin.Ge = 384
