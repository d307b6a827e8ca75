-- The listing of code: a line of text for each function, and one for each of its instructions.
use Rattle.std.specs.Prelude.{ℕ, List, [], ◌∷◌, ◌++◌, map, codes, zip, flat_map}
use Rattle.std.specs.List.{enumerate_from}
use Rattle.std.specs.Fmt.{decimal, signed_decimal}
use Rattle.int_ops.specs.declared.arith.UnOp.{UnOp}
use Rattle.int_ops.specs.declared.arith.UnOp.TheVariants as unary
use Rattle.int_ops.specs.declared.arith.BinOp.{BinOp}
use Rattle.int_ops.specs.declared.arith.BinOp.TheVariants as binary
use Rattle.int_ops.specs.Updates.{operands_of}
use Rattle.int_ops.specs.declared.update.Update.{Update}
use Rattle.int_ops.specs.declared.update.Update.TheVariants as update
use Rattle.tc_code.specs.Expr.{Expr, Number, Slot, Unary, Binary}
use Rattle.tc_code.specs.declared.cell.Cell.{Cell}
use Rattle.tc_code.specs.declared.cell.Cell.TheVariants.{Fixed, Element}
use Rattle.tc_code.specs.declared.instr.Instr.{Instr}
use Rattle.tc_code.specs.declared.instr.Instr.TheVariants.{Set, Load, Store, Inside, Branch, Goto, Holds, Lock, Unlock, Sleep, Wake}
use Rattle.tc_code.specs.declared.instr.Instr.TheVariants.{Signal, Broadcast, Create, Ready, Join, Assert, Nonzero, InRange, Modify, Fence, Stbar, Exit}
use Rattle.tc_code.specs.Code.{Code}
use Rattle.tc_code.specs.declared.code.Func.{Func}

-- the parts, separated by blanks
abbrev pub spaced : List (List ℕ) → List ℕ
spaced [] = []
spaced (w ∷ []) = w
spaced (w ∷ v ∷ ws) = w ++ (codes " " ++ spaced (v ∷ ws))

-- parts as a line of the listing
abbrev pub as_line : List (List ℕ) → List ℕ
as_line ws = spaced ws ++ codes "\n"

abbrev pub unary_text : UnOp → List ℕ
unary_text unary.Neg = codes "-"
unary_text unary.Not = codes "!"
unary_text unary.Inv = codes "~"

abbrev pub binary_text : BinOp → List ℕ
binary_text binary.Add = codes "+"
binary_text binary.Sub = codes "-"
binary_text binary.Mul = codes "*"
binary_text binary.And = codes "&"
binary_text binary.Or = codes "|"
binary_text binary.Xor = codes "^"
binary_text binary.Eq = codes "=="
binary_text binary.Ne = codes "!="
binary_text binary.Lt = codes "<"
binary_text binary.Le = codes "<="
binary_text binary.Gt = codes ">"
binary_text binary.Ge = codes ">="
binary_text binary.Div = codes "/"
binary_text binary.Rem = codes "%"
binary_text binary.Shl = codes "<<"
binary_text binary.Shr = codes ">>"

abbrev pub slot_text : ℕ → List ℕ
slot_text k = codes "$" ++ decimal k

-- an expression as text; an operator and its operands are in parentheses
abbrev pub expr_text : Expr → List ℕ
expr_text (Number n) = signed_decimal n
expr_text (Slot k) = slot_text k
expr_text (Unary op a) = codes "(" ++ (unary_text op ++ (expr_text a ++ codes ")"))
expr_text (Binary op a b) =
    codes "(" ++ (spaced (expr_text a ∷ binary_text op ∷ expr_text b ∷ []) ++ codes ")")

-- a cell as text: its number, or an array's first cell and length, and the index
abbrev pub cell_text : Cell Expr → List ℕ
cell_text (Fixed c) = decimal c
cell_text (Element a len i) = spaced (decimal a ∷ decimal len ∷ expr_text i ∷ [])

-- what the word of an access ends with
abbrev pub at_text : Cell Expr → List ℕ
at_text (Fixed c) = codes ""
at_text (Element a len i) = codes "at"

abbrev pub update_word : Update Expr → List ℕ
update_word (update.Swap e) = codes "swap"
update_word (update.Cas e new) = codes "cas"
update_word (update.Add e) = codes "add"

-- an instruction as text: its word, then everything that it names, by number
abbrev pub instr_text : Instr → List ℕ
instr_text (Set k e) = spaced (codes "set" ∷ slot_text k ∷ expr_text e ∷ [])
instr_text (Load k c) = spaced ((codes "load" ++ at_text c) ∷ slot_text k ∷ cell_text c ∷ [])
instr_text (Store c e) = spaced ((codes "store" ++ at_text c) ∷ cell_text c ∷ expr_text e ∷ [])
instr_text (Inside len i) = spaced (codes "inside" ∷ decimal len ∷ expr_text i ∷ [])
instr_text (Branch e to) = spaced (codes "branch" ∷ expr_text e ∷ decimal to ∷ [])
instr_text (Goto to) = spaced (codes "goto" ∷ decimal to ∷ [])
instr_text (Holds m) = spaced (codes "holds" ∷ decimal m ∷ [])
instr_text (Lock m) = spaced (codes "lock" ∷ decimal m ∷ [])
instr_text (Unlock m) = spaced (codes "unlock" ∷ decimal m ∷ [])
instr_text (Sleep c m) = spaced (codes "sleep" ∷ decimal c ∷ decimal m ∷ [])
instr_text (Wake c m) = spaced (codes "wake" ∷ decimal c ∷ decimal m ∷ [])
instr_text (Signal c) = spaced (codes "signal" ∷ decimal c ∷ [])
instr_text (Broadcast c) = spaced (codes "broadcast" ∷ decimal c ∷ [])
instr_text (Create h f es) = spaced (codes "create" ∷ decimal h ∷ decimal f ∷ map expr_text es)
instr_text (Ready h) = spaced (codes "ready" ∷ decimal h ∷ [])
instr_text (Join h) = spaced (codes "join" ∷ decimal h ∷ [])
instr_text (Assert e) = spaced (codes "assert" ∷ expr_text e ∷ [])
instr_text (Nonzero e) = spaced (codes "nonzero" ∷ expr_text e ∷ [])
instr_text (InRange e) = spaced (codes "inrange" ∷ expr_text e ∷ [])
instr_text (Modify k c u) =
    spaced
    ((update_word u ++ at_text c) ∷ slot_text k ∷ cell_text c ∷ map expr_text (operands_of u))
instr_text Fence = codes "fence"
instr_text Stbar = codes "stbar"
instr_text Exit = codes "exit"

-- the number of an instruction in its function, its line in the program's text, and its own text
abbrev pub row_text : ℕ → ℕ → Instr → List ℕ
row_text n line i = as_line (decimal n ∷ decimal line ∷ instr_text i ∷ [])

-- a row for each instruction, numbered from 0
abbrev pub instrs_text : Func → List ℕ
instrs_text f = flat_map (λ r. row_text r.0 r.1.0 r.1.1) (enumerate_from 0 (zip f.lines f.instrs))

-- a function's name, and how many parameters, int slots and handles it has
abbrev pub head_text : Func → List ℕ
head_text f = as_line (f.name ∷ decimal f.params ∷ decimal f.ints ∷ decimal f.handles ∷ [])

abbrev pub function_text : Func → List ℕ
function_text f = head_text f ++ instrs_text f

abbrev pub listing_of : Code → List ℕ
listing_of code = flat_map function_text code.functions
