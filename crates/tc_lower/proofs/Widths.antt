-- Code has at most three instructions for each word of its program.
use Rattle.std.proofs.Common.{ℕ, ◌+◌, ◌*◌, ◌≤◌, Bool, true, false, cond, nat_eq, List, [], ◌∷◌, ◌++◌, length, Option, Some, None, arith, length-append}
use Rattle.int_ops.specs.declared.arith.BinOp.{BinOp}
use Rattle.int_ops.specs.declared.arith.BinOp.TheVariants as binary
use Rattle.int_ops.specs.Updates.{operands_of}
use Rattle.int_ops.specs.declared.update.Update.{Update}
use Rattle.int_ops.specs.declared.update.Update.TheVariants as update
use Rattle.tc_code.specs.declared.cell.Cell.{Cell as CodeCell}
use Rattle.tc_code.specs.declared.cell.Cell.TheVariants as cell
use Rattle.tc_code.specs.Expr.{Expr}
use Rattle.tc_code.specs.Expr as code_expr
use Rattle.tc_code.specs.declared.instr.Instr.{Instr}
use Rattle.tc_code.specs.declared.instr.Instr.TheVariants.{Set, Branch, Goto, Create}
use Rattle.tc_code.specs.declared.instr.Instr.TheVariants as instr
use Rattle.tc_tree.specs.declared.expression.Name.{Name}
use Rattle.tc_tree.specs.declared.expression.Operator.{Operator}
use Rattle.tc_tree.specs.declared.statement.Action.{Action}
use Rattle.tc_tree.specs.declared.statement.Action.TheVariants.{Join, Lock, Unlock, Signal, Broadcast}
use Rattle.tc_tree.specs.tc_lexer.declared.token.Sign.TheVariants as sign
use Rattle.tc_tree.specs.declared.word.Word.{Word}
use Rattle.tc_tree.specs.declared.word.Word.TheVariants.{Sign as ASign, End as AnEnd}
use Rattle.tc_tree.specs.Grammar as grammar
use Rattle.tc_tree.specs.Grammar.{
  Expression,
  Number,
  Variable,
  Element,
  Paren,
  Unary,
  Binary,
  binary_sign,
  expression_then,
  index_then,
  others_then,
  list_then,
  Statement,
  Statements,
  Nil,
  Cons,
  Otherwise,
  Nothing,
  Else,
  ElseIf,
  statement_then,
  statements_then,
  otherwise_then,
}
use Rattle.tc_lower.specs.declared.things.Thing.{Thing}
use Rattle.tc_lower.specs.declared.things.Thing.TheVariants.{Cell, Array, Mutex, Condition, Function, Slot, Handle}
use Rattle.tc_lower.specs.Values.{Evaluated, variable, element, tested, isnt_zero, over_both, decided, undecided, joined, evaluated, arguments}
use Rattle.tc_lower.specs.Statements.{
  Lowered,
  assignment,
  test_of_index,
  store,
  creation,
  cell_of,
  modification,
  indexed,
  updating,
  action,
  wait,
  goes_on,
  passing,
  after_body,
  branched,
  lowered,
  all_lowered,
  lowered_otherwise,
}

-- ---- values

variable_width : (o : Option Thing) (free : ℕ) → length (variable o free).instrs ≤ 1
variable_width (Some (Slot k)) free = omega arith
variable_width (Some (Cell c)) free = omega arith
variable_width _ free = omega arith

element_width : (o : Option Thing) (e : Expr) (free : ℕ) → length (element o e free).instrs ≤ 2
element_width (Some (Array first len)) e free = omega arith
element_width _ e free = omega arith

tested_width : (op : BinOp) (e : Expr) → length (tested op e) ≤ 1
tested_width binary.Div e = omega arith
tested_width binary.Rem e = omega arith
tested_width binary.Shl e = omega arith
tested_width binary.Shr e = omega arith
tested_width _ e = omega arith

joined_width : (o : Option BinOp) (op : Operator) (at : ℕ) (p : Evaluated) (right : ℕ → ℕ → Evaluated) (x y : ℕ)
    → ((place slot : ℕ) → length (right place slot).instrs + x ≤ y) → length (joined o op at p right).instrs + x ≤ length p.instrs + 3 + y
joined_width (Some o) op at p right x y h =
    let q = right (at + length p.instrs) p.free in
    omega (
      arith,
      h (at + length p.instrs) p.free,
      tested_width o q.value,
      length-append (p.instrs
          ++ q.instrs) (tested o q.value),
      length-append p.instrs q.instrs,
    )
joined_width None op at p right x y h =
    let q = right (at + length p.instrs + 2) (p.free + 1) in
    let two = Set p.free (code_expr.Number (decided op)) ∷ Branch (undecided op p.value) (at + length p.instrs + 2 + length q.instrs + 1) ∷ [] in
    let last = Set p.free (isnt_zero q.value) ∷ [] in
    omega (
      arith,
      h (at + length p.instrs + 2) (p.free + 1),
      length-append (p.instrs ++ two ++ q.instrs) last,
      length-append (p.instrs ++ two) q.instrs,
      length-append p.instrs two,
    )

module _ (scope : Name → Option Thing) where
  pub expression_width : (at free : ℕ) (e : Expression) (rest : List Word)
      → length (evaluated scope at free e).instrs + 3 * length rest ≤ 3 * length (expression_then e rest)
  expression_width at free (Number n) rest = omega arith
  expression_width at free (Variable x) rest = omega (arith, variable_width (scope x) free)
  expression_width at free (Element a i) rest =
      let v = evaluated scope at free i in
      omega (
        arith,
        element_width (scope a) v.value v.free,
        length-append v.instrs (element (scope a) v.value v.free).instrs,
        expression_width at free i (ASign sign.CloseBracket ∷ rest),
      )
  expression_width at free (Paren e) rest = omega (arith, expression_width at free e (ASign sign.CloseParen ∷ rest))
  expression_width at free (Unary op e) rest = omega (arith, expression_width at free e rest)
  expression_width at free (Binary op a b) rest =
      omega (
        arith,
        expression_width at free a (ASign (binary_sign op) ∷ expression_then b rest),
        joined_width (over_both op) op at (evaluated scope at free a) (λ then slot. evaluated scope then slot b) (3 * length rest) (3 * length
            (expression_then b rest))
            (λ place slot. expression_width place slot b rest),
      )

  others_width : (at free : ℕ) (es : List Expression) (rest : List Word)
      → length (arguments scope at free es).instrs + 3 * length rest ≤ 3 * length (others_then es rest)
  others_width at free [] rest = omega arith
  others_width at free (e ∷ es) rest =
      let first = evaluated scope at free e in
      let others = arguments scope (at + length first.instrs) first.free es in
      omega (
        arith,
        length-append first.instrs others.instrs,
        expression_width at free e (others_then es rest),
        others_width (at + length first.instrs) first.free es rest,
      )

  list_width : (at free : ℕ) (es : List Expression) (rest : List Word)
      → length (arguments scope at free es).instrs + 3 * length rest ≤ 3 * length (list_then es rest)
  list_width at free [] rest = omega arith
  list_width at free (e ∷ es) rest =
      let first = evaluated scope at free e in
      let others = arguments scope (at + length first.instrs) first.free es in
      omega (
        arith,
        length-append first.instrs others.instrs,
        expression_width at free e (others_then es rest),
        others_width (at + length first.instrs) first.free es rest,
      )

-- ---- statements

assignment_width : (o : Option Thing) (e : Expr) → length (assignment o e) ≤ 1
assignment_width (Some (Slot k)) e = omega arith
assignment_width (Some (Cell c)) e = omega arith
assignment_width _ e = omega arith

test_width : (o : Option Thing) (e : Expr) → length (test_of_index o e) ≤ 1
test_width (Some (Array first len)) e = omega arith
test_width _ e = omega arith

store_width : (o : Option Thing) (i e : Expr) → length (store o i e) ≤ 1
store_width (Some (Array first len)) i e = omega arith
store_width _ i e = omega arith

created_width : (b : Bool) (i : Instr) → length (cond b (i ∷ []) []) ≤ 1
created_width true i = omega arith
created_width false i = omega arith

creation_width : (o q : Option Thing) (es : List Expr) → length (creation o q es) ≤ 1
creation_width (Some (Handle h)) (Some (Function f n)) es = created_width (nat_eq n (length es)) (Create h f es)
creation_width _ _ es = omega arith

modification_width : (o : Option Thing) (c : Option (CodeCell Expr)) (free : ℕ) (u : Update Expr) → length (modification o c free u) ≤ 2
modification_width (Some (Slot k)) (Some c) free u = omega arith
modification_width _ _ free u = omega arith

action_width : (a : Action) (o : Option Thing) → length (action a o) ≤ 2
action_width Join (Some (Handle h)) = omega arith
action_width Lock (Some (Mutex m)) = omega arith
action_width Unlock (Some (Mutex m)) = omega arith
action_width Signal (Some (Condition c)) = omega arith
action_width Broadcast (Some (Condition c)) = omega arith
action_width _ _ = omega arith

wait_width : (o q : Option Thing) → length (wait o q) ≤ 3
wait_width (Some (Condition c)) (Some (Mutex m)) = omega arith
wait_width _ _ = omega arith

passing_width : (more : Bool) (end : ℕ) → length (passing more end) ≤ 1
passing_width true end = omega arith
passing_width false end = omega arith

branched_width : (line at : ℕ) (test : Evaluated) (body : Lowered) (more : Bool) (others : Lowered)
    → length (branched line at test body more others).instrs ≤ length test.instrs + 1 + length body.instrs + 1 + length others.instrs
branched_width line at test body more others =
    let next = after_body at test body more in
    let branch = Branch test.value next in
    let past = passing more (next + length others.instrs) in
    omega (
      arith,
      length-append (test.instrs ++ branch ∷ [] ++ body.instrs ++ past) others.instrs,
      length-append (test.instrs ++ branch ∷ [] ++ body.instrs) past,
      length-append (test.instrs ++ branch ∷ []) body.instrs,
      length-append test.instrs (branch ∷ []),
      passing_width more (next + length others.instrs),
    )

module _ (scope : Name → Option Thing) where
  indexed_width : (at free : ℕ) (a : Name) (i : Option Expression) (rest : List Word)
      → length (indexed scope at free a i).instrs + 3 * length rest ≤ 3 * length (index_then i rest)
  indexed_width at free a None rest = omega arith
  indexed_width at free a (Some i) rest =
      let v = evaluated scope at free i in
      omega (
        arith,
        length-append v.instrs (test_of_index (scope a) v.value),
        test_width (scope a) v.value,
        expression_width scope at free i (ASign sign.CloseBracket ∷ rest),
      )

  updating_width : (at free : ℕ) (u : Update Expression) (rest : List Word)
      → length (updating scope at free u).instrs + 3 * length rest ≤ 3 * length (others_then (operands_of u) rest)
  updating_width at free (update.Swap e) rest = omega (arith, expression_width scope at free e rest)
  updating_width at free (update.Add e) rest = omega (arith, expression_width scope at free e rest)
  updating_width at free (update.Cas e new) rest =
      let old = evaluated scope at free e in
      let v = evaluated scope (at + length old.instrs) old.free new in
      omega (
        arith,
        length-append old.instrs v.instrs,
        expression_width scope at free e (ASign sign.Comma ∷ expression_then new rest),
        expression_width scope (at + length old.instrs) old.free new rest,
      )

  mutual
    pub statement_width : (at free : ℕ) (s : Statement) (rest : List Word)
        → length (lowered scope at free s).instrs + 3 * length rest ≤ 3 * length (statement_then s rest)
    statement_width at free (grammar.Assign x e) rest =
        let v = evaluated scope at free e in
        omega (
          arith,
          length-append v.instrs (assignment (scope x) v.value),
          assignment_width (scope x) v.value,
          expression_width scope at free e (ASign sign.Semicolon ∷ rest),
        )
    statement_width at free (grammar.Store a i e) rest =
        let index = evaluated scope at free i in
        let test = test_of_index (scope a) index.value in
        let place = at + length index.instrs + length test in
        let v = evaluated scope place index.free e in
        omega (
          arith,
          length-append (index.instrs ++ test ++ v.instrs) (store (scope a) index.value v.value),
          length-append (index.instrs ++ test) v.instrs,
          length-append index.instrs test,
          test_width (scope a) index.value,
          store_width (scope a) index.value v.value,
          expression_width scope at free i (ASign sign.CloseBracket ∷ ASign sign.Assign ∷ expression_then e (ASign sign.Semicolon ∷ rest)),
          expression_width scope place index.free e (ASign sign.Semicolon ∷ rest),
        )
    statement_width at free (grammar.Create h f es) rest =
        let given = arguments scope at free es in
        omega (
          arith,
          length-append given.instrs (creation (scope h) (scope f) given.values),
          creation_width (scope h) (scope f) given.values,
          list_width scope at free es (ASign sign.CloseParen ∷ ASign sign.Semicolon ∷ rest),
        )
    statement_width at free (grammar.Modify r x i u) rest =
        let index = indexed scope at free x i in
        let given = updating scope (at + length index.instrs) index.free u in
        omega (
          arith,
          length-append (index.instrs ++ given.instrs) (modification (scope r) (cell_of (scope x) index.index) given.free given.update),
          length-append index.instrs given.instrs,
          modification_width (scope r) (cell_of (scope x) index.index) given.free given.update,
          indexed_width at free x i (others_then (operands_of u) (ASign sign.CloseParen ∷ ASign sign.Semicolon ∷ rest)),
          updating_width (at + length index.instrs) index.free u (ASign sign.CloseParen ∷ ASign sign.Semicolon ∷ rest),
        )
    statement_width at free (grammar.Act p a x) rest = omega (arith, action_width a (scope x))
    statement_width at free (grammar.Wait p c m) rest = omega (arith, wait_width (scope c) (scope m))
    statement_width at free (grammar.Order p b) rest = omega arith
    statement_width at free (grammar.Assert p e) rest =
        let v = evaluated scope at free e in
        omega (
          arith,
          length-append v.instrs (instr.Assert v.value ∷ []),
          expression_width scope at free e (ASign sign.CloseParen ∷ ASign sign.Semicolon ∷ rest),
        )
    statement_width at free (grammar.While p c b q) rest =
        let test = evaluated scope at free c in
        let place = at + length test.instrs + 1 in
        let body = all_lowered scope place test.free b in
        let branch = Branch test.value (place + length body.instrs + 1) in
        omega (
          arith,
          length-append (test.instrs ++ branch ∷ [] ++ body.instrs) (Goto at ∷ []),
          length-append (test.instrs ++ branch ∷ []) body.instrs,
          length-append test.instrs (branch ∷ []),
          expression_width scope at free c (ASign sign.CloseParen ∷ ASign sign.OpenBrace ∷ statements_then b (AnEnd q ∷ rest)),
          statements_width place test.free b (AnEnd q ∷ rest),
        )
    statement_width at free (grammar.If p c b q o) rest =
        let test = evaluated scope at free c in
        let place = at + length test.instrs + 1 in
        let body = all_lowered scope place test.free b in
        let next = after_body at test body (goes_on o) in
        omega (
          arith,
          branched_width p.line at test body (goes_on o) (lowered_otherwise scope next body.free o),
          expression_width scope at free c (ASign sign.CloseParen ∷ ASign sign.OpenBrace ∷ statements_then b (AnEnd q ∷ otherwise_then o rest)),
          statements_width place test.free b (AnEnd q ∷ otherwise_then o rest),
          otherwise_width next body.free o rest,
        )

    pub statements_width : (at free : ℕ) (ss : Statements) (rest : List Word)
        → length (all_lowered scope at free ss).instrs + 3 * length rest ≤ 3 * length (statements_then ss rest)
    statements_width at free Nil rest = omega arith
    statements_width at free (Cons s ss) rest =
        let first = lowered scope at free s in
        let others = all_lowered scope (at + length first.instrs) first.free ss in
        omega (
          arith,
          length-append first.instrs others.instrs,
          statement_width at free s (statements_then ss rest),
          statements_width (at + length first.instrs) first.free ss rest,
        )

    pub otherwise_width : (at free : ℕ) (o : Otherwise) (rest : List Word)
        → length (lowered_otherwise scope at free o).instrs + 3 * length rest ≤ 3 * length (otherwise_then o rest)
    otherwise_width at free Nothing rest = omega arith
    otherwise_width at free (Else b q) rest = omega (arith, statements_width at free b (AnEnd q ∷ rest))
    otherwise_width at free (ElseIf p c b q o) rest =
        let test = evaluated scope at free c in
        let place = at + length test.instrs + 1 in
        let body = all_lowered scope place test.free b in
        let next = after_body at test body (goes_on o) in
        omega (
          arith,
          branched_width p.line at test body (goes_on o) (lowered_otherwise scope next body.free o),
          expression_width scope at free c (ASign sign.CloseParen ∷ ASign sign.OpenBrace ∷ statements_then b (AnEnd q ∷ otherwise_then o rest)),
          statements_width place test.free b (AnEnd q ∷ otherwise_then o rest),
          otherwise_width next body.free o rest,
        )
