-- Expressions lowered to instructions, and to an expression over slots.
use Rattle.std.specs.Prelude.{ℕ, ◌+◌, ℤ, pos, List, [], ◌∷◌, ◌++◌, length, Option, Some, None}
use Rattle.int_ops.specs.declared.arith.BinOp.{BinOp}
use Rattle.int_ops.specs.declared.arith.BinOp.TheVariants as binary
use Rattle.int_ops.specs.declared.arith.UnOp.TheVariants.{Not}
use Rattle.tc_code.specs.Expr as code
use Rattle.tc_code.specs.Expr.{Expr}
use Rattle.tc_code.specs.declared.cell.Cell.TheVariants as cell
use Rattle.tc_code.specs.declared.instr.Instr.{Instr}
use Rattle.tc_code.specs.declared.instr.Instr.TheVariants.{Set, Load, Inside, Branch, Nonzero, InRange}
use Rattle.tc_tree.specs.declared.expression.Name.{Name}
use Rattle.tc_tree.specs.declared.expression.Operator.{Operator}
use Rattle.tc_tree.specs.declared.expression.Operator.TheVariants.{
  Multiply,
  Divide,
  Remainder,
  Add,
  Subtract,
  ShiftLeft,
  ShiftRight,
  Less,
  LessOrEqual,
  Greater,
  GreaterOrEqual,
  Equal,
  Unequal,
  BitAnd,
  BitXor,
  BitOr,
  And,
  Or,
}
use Rattle.tc_tree.specs.Grammar.{Expression, Number, Variable, Element, Paren, Unary, Binary}
use Rattle.tc_lower.specs.declared.things.Thing.{Thing}
use Rattle.tc_lower.specs.declared.things.Thing.TheVariants.{Cell, Array, Slot}

-- the instructions that compute a value, the expression that then has it, and the next free slot
pub record Evaluated : Type 0 where
  pub instrs : List Instr
  pub value : Expr
  pub free : ℕ

-- a variable: an int of the body is its slot; a global is loaded into the next free slot
abbrev pub variable : Option Thing → ℕ → Evaluated
variable (Some (Slot k)) free = record { instrs = []; value = code.Slot k; free = free }
variable (Some (Cell c)) free =
    record { instrs = Load free (cell.Fixed c) ∷ []; value = code.Slot free; free = free + 1 }
variable _ free = record { instrs = []; value = code.Number (pos 0); free = free }

-- an element: its index is tested, then it is loaded into the next free slot
abbrev pub element : Option Thing → Expr → ℕ → Evaluated
element (Some (Array first len)) i free = record {
  instrs = Inside len i ∷ Load free (cell.Element first len i) ∷ [];
  value = code.Slot free;
  free = free + 1;
}
element _ i free = record { instrs = []; value = i; free = free }

-- instructions, followed by those that compute a value
abbrev pub after : List Instr → Evaluated → Evaluated
after is v = record { instrs = is ++ v.instrs; value = v.value; free = v.free }

-- the test of an operator's right side: a divisor isn't 0, a shift distance is valid
abbrev pub tested : BinOp → Expr → List Instr
tested binary.Div e = Nonzero e ∷ []
tested binary.Rem e = Nonzero e ∷ []
tested binary.Shl e = InRange e ∷ []
tested binary.Shr e = InRange e ∷ []
tested _ e = []

-- an operator after its two sides and the test of the right one
abbrev pub over : BinOp → Evaluated → Evaluated → Evaluated
over op p q =
    record {
      instrs = p.instrs ++ q.instrs
          ++ tested op q.value;
      value = code.Binary op p.value q.value;
      free = q.free;
    }

-- whether a value isn't 0
abbrev pub isnt_zero : Expr → Expr
isnt_zero e = code.Binary binary.Ne e (code.Number (pos 0))

-- the operator on the values of both sides; none for `&&` and `||`, which may skip the right side
abbrev pub over_both : Operator → Option BinOp
over_both Multiply = Some binary.Mul
over_both Divide = Some binary.Div
over_both Remainder = Some binary.Rem
over_both Add = Some binary.Add
over_both Subtract = Some binary.Sub
over_both ShiftLeft = Some binary.Shl
over_both ShiftRight = Some binary.Shr
over_both Less = Some binary.Lt
over_both LessOrEqual = Some binary.Le
over_both Greater = Some binary.Gt
over_both GreaterOrEqual = Some binary.Ge
over_both Equal = Some binary.Eq
over_both Unequal = Some binary.Ne
over_both BitAnd = Some binary.And
over_both BitXor = Some binary.Xor
over_both BitOr = Some binary.Or
over_both And = None
over_both Or = None

-- the result of `&&` or `||` if the left side decides it alone
abbrev pub decided : Operator → ℤ
decided And = pos 0
decided _ = pos 1

-- an expression that is 0 if the left side decides the result alone
abbrev pub undecided : Operator → Expr → Expr
undecided And e = e
undecided _ e = code.Unary Not e

-- `&&` or `||`: a new slot takes the left side's decision, or else whether the right side isn't 0
abbrev pub choice : Operator → ℕ → Evaluated → Evaluated → Evaluated
choice op at p q =
    let end = at + length p.instrs + 2 + length q.instrs + 1 in
    record {
      instrs = p.instrs
          ++ Set p.free (code.Number (decided op)) ∷ Branch (undecided op p.value) end ∷ []
          ++ q.instrs ++ Set p.free (isnt_zero q.value) ∷ [];
      value = code.Slot p.free;
      free = q.free;
    }

-- an operator on both sides, the right one lowered from its own place and next free slot
abbrev pub joined : Option BinOp → Operator → ℕ → Evaluated → (ℕ → ℕ → Evaluated) → Evaluated
joined (Some o) op at p right = over o p (right (at + length p.instrs) p.free)
joined None op at p right = choice op at p (right (at + length p.instrs + 2) (p.free + 1))

-- an expression lowered from a place and a next free slot
abbrev pub evaluated : (Name → Option Thing) → ℕ → ℕ → Expression → Evaluated
evaluated scope at free (Number n) =
    record { instrs = []; value = code.Number n.value; free = free }
evaluated scope at free (Variable x) = variable (scope x) free
evaluated scope at free (Element a i) =
    let index = evaluated scope at free i in
    after index.instrs (element (scope a) index.value index.free)
evaluated scope at free (Paren e) = evaluated scope at free e
evaluated scope at free (Unary op e) =
    let v = evaluated scope at free e in
    record { instrs = v.instrs; value = code.Unary op v.value; free = v.free }
evaluated scope at free (Binary op a b) =
    joined (over_both op) op at (evaluated scope at free a)
    (λ then slot. evaluated scope then slot b)

-- several expressions, lowered one after another
pub record Arguments : Type 0 where
  pub instrs : List Instr
  pub values : List Expr
  pub free : ℕ

abbrev pub arguments : (Name → Option Thing) → ℕ → ℕ → List Expression → Arguments
arguments scope at free [] = record { instrs = []; values = []; free = free }
arguments scope at free (e ∷ es) =
    let first = evaluated scope at free e in
    let others = arguments scope (at + length first.instrs) first.free es in
    record {
      instrs = first.instrs
          ++ others.instrs;
      values = first.value ∷ others.values;
      free = others.free;
    }
