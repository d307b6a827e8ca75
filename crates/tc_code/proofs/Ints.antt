-- The value of an expression is an int.
use Rattle.std.proofs.Common.{ℤ, List}
use Rattle.std.specs.List.{All}
use Rattle.int_ops.specs.Arith.{IsInt}
use Rattle.int_ops.proofs.Ints.{unary_int, binary_int, there_int}
use Rattle.tc_code.specs.Expr.{Expr, Number, Slot, Unary, Binary, HasInts, value_of}

-- over ints
pub value_int : (e : Expr) (slots : List ℤ) → HasInts e → All IsInt slots → IsInt (value_of e slots)
value_int (Number n) slots has are = has
value_int (Slot k) slots has are = there_int slots k are
value_int (Unary op a) slots has are = unary_int op (value_of a slots) (value_int a slots has are)
value_int (Binary op a b) slots has are =
    binary_int op (value_of a slots) (value_of b slots) (value_int a slots has.0 are) (value_int b slots has.1 are)
