-- Expressions over the int slots of a thread.
use Rattle.std.specs.Prelude.{ℕ, ◌+◌, ℤ, pos, List, slice_index_or, nat_lt, ◌==◌, Bool, true, false, ◌&&◌, ◌||◌}
use Rattle.int_ops.specs.Arith.{IsInt, unary, binary}
use Rattle.int_ops.specs.declared.arith.UnOp.{UnOp}
use Rattle.int_ops.specs.declared.arith.BinOp.{BinOp}

pub data Expr : Type 0 where
  Number : (value : ℤ) → Expr
  Slot : (slot : ℕ) → Expr
  Unary : (op : UnOp) (operand : Expr) → Expr
  Binary : (op : BinOp) (left right : Expr) → Expr

-- the value of an expression, given the values of the slots
abbrev pub value_of : Expr → List ℤ → ℤ
value_of (Number n) slots = n
value_of (Slot k) slots = slice_index_or slots k (pos 0)
value_of (Unary op a) slots = unary op (value_of a slots)
value_of (Binary op a b) slots = binary op (value_of a slots) (value_of b slots)

-- whether the expression uses only slots below n
abbrev pub names_slots : ℕ → Expr → Bool
names_slots n (Number _) = true
names_slots n (Slot k) = nat_lt k n
names_slots n (Unary _ a) = names_slots n a
names_slots n (Binary _ a b) = names_slots n a && names_slots n b

-- every number in the expression is an int
abbrev pub HasInts : Expr → Type 0
HasInts (Number n) = IsInt n
HasInts (Slot _) = Unit {0}
HasInts (Unary _ a) = HasInts a
HasInts (Binary _ a b) = HasInts a × HasInts b

-- whether the expression uses slot k
abbrev pub names_slot : ℕ → Expr → Bool
names_slot k (Number _) = false
names_slot k (Slot j) = j == k
names_slot k (Unary _ a) = names_slot k a
names_slot k (Binary _ a b) = names_slot k a || names_slot k b

-- how many nodes the expression has
abbrev pub size : Expr → ℕ
size (Number _) = 1
size (Slot _) = 1
size (Unary _ a) = size a + 1
size (Binary _ a b) = size a + size b + 1
