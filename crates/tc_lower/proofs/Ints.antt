-- If the numbers of a program are ints, those of its code are ints.
use Rattle.std.proofs.Common.{◌≡◌, ℕ, zero, suc, ◌+◌, Bool, true, false, cond, nat_eq, List, [], ◌∷◌, ◌++◌, length, replicate, Option, Some, None, pos, arith}
use Rattle.std.proofs.Common.{slice_get, subst}
use Rattle.std.specs.Prelude.{IfSome}
use Rattle.std.specs.List.{All}
use Rattle.std.proofs.lemmas.List.Elements.{All-nil, All-cons, All-append, All-replicate}
use Rattle.std.proofs.lemmas.Option.{none-some, same_Some}
use Rattle.int_ops.specs.Arith.{IsInt, negated}
use Rattle.int_ops.specs.declared.arith.BinOp.{BinOp}
use Rattle.int_ops.specs.declared.arith.BinOp.TheVariants as binary
use Rattle.int_ops.specs.declared.arith.UnOp.TheVariants.{Neg}
use Rattle.int_ops.specs.Updates.{operands_of}
use Rattle.int_ops.specs.declared.update.Update.{Update}
use Rattle.int_ops.specs.declared.update.Update.TheVariants as update
use Rattle.int_ops.proofs.Ints.{unary_int}
use Rattle.tc_code.specs.Expr as code_expr
use Rattle.tc_code.specs.Expr.{Expr, HasInts}
use Rattle.tc_code.specs.Lawful.{exprs_of}
use Rattle.tc_code.specs.declared.cell.Cell.{Cell as CodeCell}
use Rattle.tc_code.specs.declared.cell.Cell.TheVariants as cell
use Rattle.tc_code.specs.declared.instr.Instr.{Instr}
use Rattle.tc_code.specs.declared.instr.Instr.TheVariants as instr
use Rattle.tc_code.specs.declared.instr.Instr.TheVariants.{Set, Branch, Goto, Create}
use Rattle.tc_tree.specs.declared.expression.Name.{Name}
use Rattle.tc_tree.specs.declared.expression.Operator.{Operator}
use Rattle.tc_tree.specs.declared.expression.Operator.TheVariants.{And}
use Rattle.tc_tree.specs.declared.program.Global.{Global}
use Rattle.tc_tree.specs.declared.program.Global.TheVariants as global
use Rattle.tc_tree.specs.declared.program.Initial.TheVariants.{Zero, Plain, Negated}
use Rattle.tc_tree.specs.declared.program.Local.{Local}
use Rattle.tc_tree.specs.declared.program.Local.TheVariants as local
use Rattle.tc_tree.specs.declared.statement.Action.{Action}
use Rattle.tc_tree.specs.declared.statement.Action.TheVariants.{Join, Lock, Unlock, Signal, Broadcast}
use Rattle.tc_tree.specs.declared.statement.Barrier.{Barrier}
use Rattle.tc_tree.specs.declared.statement.Barrier.TheVariants.{Fence, Stores}
use Rattle.tc_tree.specs.tc_lexer.declared.token.Keyword.TheVariants as keyword
use Rattle.tc_tree.specs.tc_lexer.declared.token.Sign.TheVariants as sign
use Rattle.tc_tree.specs.declared.word.Word.{Word}
use Rattle.tc_tree.specs.declared.word.Word.TheVariants.{Keyword as AKeyword, Sign as ASign, End as AnEnd}
use Rattle.tc_tree.specs.Numbers.{AreInts}
use Rattle.tc_tree.specs.Numbers as numbers
use Rattle.tc_tree.specs.Counts.{elements}
use Rattle.tc_tree.specs.Grammar as grammar
use Rattle.tc_tree.specs.Grammar.{
  Expression,
  Number,
  Variable,
  Element,
  Paren,
  Unary,
  Binary,
  binary_sign,
  expression_then,
  index_then,
  others_then,
  list_then,
  Statement,
  Statements,
  Nil,
  Cons,
  Otherwise,
  Nothing,
  Else,
  ElseIf,
  statement_then,
  statements_then,
  otherwise_then,
  Body,
  Thread,
  Program,
  globals_then,
  locals_then,
  body_then,
  other_parameters_then,
  parameters_then,
  threads_then,
}
use Rattle.tc_lower.specs.declared.things.Thing.{Thing}
use Rattle.tc_lower.specs.declared.things.Thing.TheVariants.{Cell, Array, Mutex, Condition, Function, Slot, Handle}
use Rattle.tc_lower.specs.Values.{Evaluated, variable, element, tested, isnt_zero, over_both, decided, undecided, joined, evaluated, Arguments, arguments}
use Rattle.tc_lower.specs.Statements.{
  Lowered,
  assignment,
  test_of_index,
  store,
  creation,
  cell_of,
  modification,
  indexed,
  updating,
  action,
  wait,
  barrier,
  goes_on,
  passing,
  after_body,
  branched,
  lowered,
  all_lowered,
  lowered_otherwise,
}
use Rattle.tc_lower.specs.Lowering.{memory_of}

-- ---- instructions

-- each number of the instruction is an int
abbrev pub Fine : Instr → Type 0
Fine i = All HasInts (exprs_of i)

abbrev pub AllFine : List Instr → Type 0
AllFine [] = Unit {0}
AllFine (i ∷ is) = Fine i × AllFine is

pub fine_append : (is js : List Instr) → AllFine is → AllFine js → AllFine (is ++ js)
fine_append [] js f g = g
fine_append (i ∷ is) js f g = (f.0, fine_append is js f.1 g)

pub fine_at : (is : List Instr) → AllFine is → (k : ℕ) (i : Instr) → slice_get is k ≡ Some i → Fine i
fine_at [] f k i there = absurd (none-some i there)
fine_at (j ∷ is) f zero i there = subst Fine (same_Some j i there) f.0
fine_at (j ∷ is) f (suc k) i there = fine_at is f.1 k i there

pub none : All HasInts []
none = All-nil HasInts

one : (e : Expr) → HasInts e → All HasInts (e ∷ [])
one e h = All-cons HasInts e [] h none

two : (d e : Expr) → HasInts d → HasInts e → All HasInts (d ∷ e ∷ [])
two d e g h = All-cons HasInts d (e ∷ []) g (one e h)

nought : IsInt (pos 0)
nought = omega arith

-- ---- values

record Ints (v : Evaluated) : Type 0 where
  value : HasInts v.value
  instrs : AllFine v.instrs

variable_ints : (o : Option Thing) (free : ℕ) → Ints (variable o free)
variable_ints (Some (Slot k)) free = record { value = tt; instrs = tt }
variable_ints (Some (Cell c)) free = record { value = tt; instrs = (none, tt) }
variable_ints _ free = record { value = nought; instrs = tt }

element_ints : (o : Option Thing) (e : Expr) (free : ℕ) → HasInts e → Ints (element o e free)
element_ints (Some (Array first len)) e free h = record { value = tt; instrs = (one e h, (one e h, tt)) }
element_ints _ e free h = record { value = h; instrs = tt }

tested_ints : (op : BinOp) (e : Expr) → HasInts e → AllFine (tested op e)
tested_ints binary.Div e h = (one e h, tt)
tested_ints binary.Rem e h = (one e h, tt)
tested_ints binary.Shl e h = (one e h, tt)
tested_ints binary.Shr e h = (one e h, tt)
tested_ints _ e h = tt

decided_int : (op : Operator) → IsInt (decided op)
decided_int And = omega arith
decided_int _ = omega arith

undecided_ints : (op : Operator) (e : Expr) → HasInts e → HasInts (undecided op e)
undecided_ints And e h = h
undecided_ints _ e h = h

joined_ints : (o : Option BinOp) (op : Operator) (at : ℕ) (p : Evaluated) (right : ℕ → ℕ → Evaluated) → Ints p
    → ((place slot : ℕ) → Ints (right place slot)) → Ints (joined o op at p right)
joined_ints (Some o) op at p right a r =
    let q = right (at + length p.instrs) p.free in
    let b = r (at + length p.instrs) p.free in
    record {
      value = (a.value, b.value);
      instrs = fine_append (p.instrs ++ q.instrs) (tested o q.value) (fine_append p.instrs q.instrs a.instrs b.instrs) (tested_ints o q.value b.value);
    }
joined_ints None op at p right a r =
    let q = right (at + length p.instrs + 2) (p.free + 1) in
    let b = r (at + length p.instrs + 2) (p.free + 1) in
    let end = at + length p.instrs + 2 + length q.instrs + 1 in
    let first = Set p.free (code_expr.Number (decided op)) ∷ Branch (undecided op p.value) end ∷ [] in
    let last = Set p.free (isnt_zero q.value) ∷ [] in
    record {
      value = tt;
      instrs = fine_append (p.instrs ++ first ++ q.instrs) last
          (fine_append (p.instrs ++ first) q.instrs
          (fine_append p.instrs first a.instrs
          (one (code_expr.Number (decided op)) (decided_int op), (one (undecided op p.value) (undecided_ints op p.value a.value), tt))) b.instrs)
          (one (isnt_zero q.value) (b.value, nought), tt);
    }

record AllInts (a : Arguments) : Type 0 where
  values : All HasInts a.values
  instrs : AllFine a.instrs

module _ (scope : Name → Option Thing) where
  -- an expression, and the words after it
  expression_ints : (e : Expression) (rest : List Word) → AreInts (expression_then e rest)
      → ((at free : ℕ) → Ints (evaluated scope at free e)) × AreInts rest
  expression_ints (Number n) rest h = (λ at free. record { value = h.0; instrs = tt }, h.1)
  expression_ints (Variable x) rest h = (λ at free. variable_ints (scope x) free, h.1)
  expression_ints (Element a i) rest h =
      let k = expression_ints i (ASign sign.CloseBracket ∷ rest) h.1.1 in (
        λ at free.
            let index = evaluated scope at free i in
            let found = k.0 at free in
            let v = element_ints (scope a) index.value index.free found.value in
            record { value = v.value; instrs = fine_append index.instrs (element (scope a) index.value index.free).instrs found.instrs v.instrs },
        k.1.1,
      )
  expression_ints (Paren e) rest h = let k = expression_ints e (ASign sign.CloseParen ∷ rest) h.1 in (k.0, k.1.1)
  expression_ints (Unary op e) rest h =
      let k = expression_ints e rest h.1 in (λ at free. let v = k.0 at free in record { value = v.value; instrs = v.instrs }, k.1)
  expression_ints (Binary op a b) rest h =
      let k = expression_ints a (ASign (binary_sign op) ∷ expression_then b rest) h in
      let l = expression_ints b rest k.1.1 in (
        λ at free. joined_ints (over_both op) op at (evaluated scope at free a) (λ place slot. evaluated scope place slot b) (k.0 at free) l.0,
        l.1,
      )

  more_ints : (at free : ℕ) (e : Expression) (es : List Expression) → ((at free : ℕ) → Ints (evaluated scope at free e))
      → ((at free : ℕ) → AllInts (arguments scope at free es)) → AllInts (arguments scope at free (e ∷ es))
  more_ints at free e es k l =
      let first = evaluated scope at free e in
      let others = arguments scope (at + length first.instrs) first.free es in
      let v = k at free in
      let vs = l (at + length first.instrs) first.free in
      record {
        values = All-cons HasInts first.value others.values v.value vs.values;
        instrs = fine_append first.instrs others.instrs v.instrs vs.instrs;
      }

  others_ints : (es : List Expression) (rest : List Word) → AreInts (others_then es rest)
      → ((at free : ℕ) → AllInts (arguments scope at free es)) × AreInts rest
  others_ints [] rest h = (λ at free. record { values = none; instrs = tt }, h)
  others_ints (e ∷ es) rest h =
      let k = expression_ints e (others_then es rest) h.1 in
      let l = others_ints es rest k.1 in
      (λ at free. more_ints at free e es k.0 l.0, l.1)

  list_ints : (es : List Expression) (rest : List Word) → AreInts (list_then es rest)
      → ((at free : ℕ) → AllInts (arguments scope at free es)) × AreInts rest
  list_ints [] rest h = (λ at free. record { values = none; instrs = tt }, h)
  list_ints (e ∷ es) rest h =
      let k = expression_ints e (others_then es rest) h in
      let l = others_ints es rest k.1 in
      (λ at free. more_ints at free e es k.0 l.0, l.1)

-- ---- statements

assignment_ints : (o : Option Thing) (e : Expr) → HasInts e → AllFine (assignment o e)
assignment_ints (Some (Slot k)) e h = (one e h, tt)
assignment_ints (Some (Cell c)) e h = (one e h, tt)
assignment_ints _ e h = tt

test_ints : (o : Option Thing) (e : Expr) → HasInts e → AllFine (test_of_index o e)
test_ints (Some (Array first len)) e h = (one e h, tt)
test_ints _ e h = tt

store_ints : (o : Option Thing) (i e : Expr) → HasInts i → HasInts e → AllFine (store o i e)
store_ints (Some (Array first len)) i e g h = (two i e g h, tt)
store_ints _ i e g h = tt

created_ints : (b : Bool) (h f : ℕ) (es : List Expr) → All HasInts es → AllFine (cond b (Create h f es ∷ []) [])
created_ints true h f es g = (g, tt)
created_ints false h f es g = tt

creation_ints : (o q : Option Thing) (es : List Expr) → All HasInts es → AllFine (creation o q es)
creation_ints (Some (Handle h)) (Some (Function f n)) es g = created_ints (nat_eq n (length es)) h f es g
creation_ints _ _ es g = tt

-- the index of a cell, if it has one, is over ints
abbrev CellFine : Option (CodeCell Expr) → Type 0
CellFine (Some (cell.Element first len i)) = HasInts i
CellFine _ = Unit {0}

cell_ints : (o : Option Thing) (i : Option Expr) → IfSome i HasInts → CellFine (cell_of o i)
cell_ints (Some (Array first len)) (Some i) h = h
cell_ints (Some (Cell c)) None h = tt
cell_ints _ _ h = tt

modification_ints : (o : Option Thing) (c : Option (CodeCell Expr)) (free : ℕ) (u : Update Expr) → CellFine c → All HasInts (operands_of u)
    → AllFine (modification o c free u)
modification_ints (Some (Slot k)) (Some (cell.Fixed c)) free u g h = (h, (one (code_expr.Slot free) tt, tt))
modification_ints (Some (Slot k)) (Some (cell.Element first len i)) free u g h =
    (All-cons HasInts i (operands_of u) g h, (one (code_expr.Slot free) tt, tt))
modification_ints _ _ free u g h = (one (code_expr.Number (pos 0)) (omega arith), tt)

action_ints : (a : Action) (o : Option Thing) → AllFine (action a o)
action_ints Join (Some (Handle h)) = (none, (none, tt))
action_ints Lock (Some (Mutex m)) = (none, tt)
action_ints Unlock (Some (Mutex m)) = (none, (none, tt))
action_ints Signal (Some (Condition c)) = (none, tt)
action_ints Broadcast (Some (Condition c)) = (none, tt)
action_ints _ _ = tt

wait_ints : (o q : Option Thing) → AllFine (wait o q)
wait_ints (Some (Condition c)) (Some (Mutex m)) = (none, (none, (none, tt)))
wait_ints _ _ = tt

barrier_ints : (b : Barrier) → Fine (barrier b)
barrier_ints Fence = none
barrier_ints Stores = none

passing_ints : (more : Bool) (end : ℕ) → AllFine (passing more end)
passing_ints true end = (none, tt)
passing_ints false end = tt

branched_ints : (line at : ℕ) (test : Evaluated) (body : Lowered) (more : Bool) (others : Lowered) → Ints test → AllFine body.instrs → AllFine others.instrs
    → AllFine (branched line at test body more others).instrs
branched_ints line at test body more others t b o =
    let next = after_body at test body more in
    let branch = Branch test.value next ∷ [] in
    let past = passing more (next + length others.instrs) in
    fine_append (test.instrs ++ branch ++ body.instrs ++ past) others.instrs
    (fine_append (test.instrs ++ branch ++ body.instrs) past
    (fine_append (test.instrs ++ branch) body.instrs (fine_append test.instrs branch t.instrs (one test.value t.value, tt)) b)
    (passing_ints more (next + length others.instrs))) o

module _ (scope : Name → Option Thing) where
  indexed_ints : (a : Name) (i : Option Expression) (rest : List Word) → AreInts (index_then i rest)
      → ((at free : ℕ) → AllFine (indexed scope at free a i).instrs × IfSome (indexed scope at free a i).index HasInts) × AreInts rest
  indexed_ints a None rest h = ((λ at free. (tt, tt)), h)
  indexed_ints a (Some i) rest h =
      let k = expression_ints scope i (ASign sign.CloseBracket ∷ rest) h.1 in (
        λ at free.
            let v = evaluated scope at free i in
            let f = k.0 at free in
            (fine_append v.instrs (test_of_index (scope a) v.value) f.instrs (test_ints (scope a) v.value f.value), f.value),
        k.1.1,
      )

  updating_ints : (u : Update Expression) (rest : List Word) → AreInts (others_then (operands_of u) rest)
      → ((at free : ℕ) → AllFine (updating scope at free u).instrs × All HasInts (operands_of (updating scope at free u).update)) × AreInts rest
  updating_ints (update.Swap e) rest h =
      let k = expression_ints scope e rest h.1 in ((λ at free. let f = k.0 at free in (f.instrs, All-cons HasInts _ [] f.value none)), k.1)
  updating_ints (update.Add e) rest h =
      let k = expression_ints scope e rest h.1 in ((λ at free. let f = k.0 at free in (f.instrs, All-cons HasInts _ [] f.value none)), k.1)
  updating_ints (update.Cas e new) rest h =
      let k = expression_ints scope e (ASign sign.Comma ∷ expression_then new rest) h.1 in
      let l = expression_ints scope new rest k.1.1 in (
        λ at free.
            let old = evaluated scope at free e in
            let v = evaluated scope (at + length old.instrs) old.free new in
            let f = k.0 at free in
            let g = l.0 (at + length old.instrs) old.free in
            (fine_append old.instrs v.instrs f.instrs g.instrs, All-cons HasInts old.value (v.value ∷ []) f.value (All-cons HasInts v.value [] g.value none)),
        l.1,
      )

  mutual
    statement_ints : (s : Statement) (rest : List Word) → AreInts (statement_then s rest)
        → ((at free : ℕ) → AllFine (lowered scope at free s).instrs) × AreInts rest
    statement_ints (grammar.Assign x e) rest h =
        let k = expression_ints scope e (ASign sign.Semicolon ∷ rest) h.1.1 in (
          λ at free.
              let v = evaluated scope at free e in
              let f = k.0 at free in
              fine_append v.instrs (assignment (scope x) v.value) f.instrs (assignment_ints (scope x) v.value f.value),
          k.1.1,
        )
    statement_ints (grammar.Store a i e) rest h =
        let k = expression_ints scope i (ASign sign.CloseBracket ∷ ASign sign.Assign ∷ expression_then e (ASign sign.Semicolon ∷ rest)) h.1.1 in
        let l = expression_ints scope e (ASign sign.Semicolon ∷ rest) k.1.1.1 in (
          λ at free.
              let index = evaluated scope at free i in
              let test = test_of_index (scope a) index.value in
              let place = at + length index.instrs + length test in
              let v = evaluated scope place index.free e in
              let f = k.0 at free in
              let g = l.0 place index.free in
              fine_append (index.instrs ++ test ++ v.instrs) (store (scope a) index.value v.value)
              (fine_append (index.instrs ++ test) v.instrs (fine_append index.instrs test f.instrs (test_ints (scope a) index.value f.value)) g.instrs)
              (store_ints (scope a) index.value v.value f.value g.value),
          l.1.1,
        )
    statement_ints (grammar.Create h f es) rest w =
        let k = list_ints scope es (ASign sign.CloseParen ∷ ASign sign.Semicolon ∷ rest) w.1.1.1.1.1 in (
          λ at free.
              let given = arguments scope at free es in
              let g = k.0 at free in
              fine_append given.instrs (creation (scope h) (scope f) given.values) g.instrs (creation_ints (scope h) (scope f) given.values g.values),
          k.1.1.1,
        )
    statement_ints (grammar.Modify r x i u) rest h =
        let k = indexed_ints x i (others_then (operands_of u) (ASign sign.CloseParen ∷ ASign sign.Semicolon ∷ rest)) h.1.1.1.1.1 in
        let l = updating_ints u (ASign sign.CloseParen ∷ ASign sign.Semicolon ∷ rest) k.1 in (
          λ at free.
              let index = indexed scope at free x i in
              let place = at + length index.instrs in
              let given = updating scope place index.free u in
              let f = k.0 at free in
              let g = l.0 place index.free in
              fine_append (index.instrs ++ given.instrs) (modification (scope r) (cell_of (scope x) index.index) given.free given.update)
              (fine_append index.instrs given.instrs f.0 g.0)
              (modification_ints (scope r) (cell_of (scope x) index.index) given.free given.update (cell_ints (scope x) index.index f.1) g.1),
          l.1.1.1,
        )
    statement_ints (grammar.Act p a x) rest h = (λ at free. action_ints a (scope x), h.1.1.1.1.1)
    statement_ints (grammar.Wait p c m) rest h = (λ at free. wait_ints (scope c) (scope m), h.1.1.1.1.1.1.1)
    statement_ints (grammar.Order p b) rest h = (λ at free. (barrier_ints b, tt), h.1.1.1.1)
    statement_ints (grammar.Assert p e) rest h =
        let k = expression_ints scope e (ASign sign.CloseParen ∷ ASign sign.Semicolon ∷ rest) h.1.1 in (
          λ at free.
              let v = evaluated scope at free e in
              let f = k.0 at free in
              fine_append v.instrs (instr.Assert v.value ∷ []) f.instrs (one v.value f.value, tt),
          k.1.1.1,
        )
    statement_ints (grammar.While p c b q) rest h =
        let k = expression_ints scope c (ASign sign.CloseParen ∷ ASign sign.OpenBrace ∷ statements_then b (AnEnd q ∷ rest)) h.1.1 in
        let l = statements_ints b (AnEnd q ∷ rest) k.1.1.1 in (
          λ at free.
              let test = evaluated scope at free c in
              let place = at + length test.instrs + 1 in
              let body = all_lowered scope place test.free b in
              let branch = Branch test.value (place + length body.instrs + 1) ∷ [] in
              let f = k.0 at free in
              fine_append (test.instrs ++ branch ++ body.instrs) (Goto at ∷ [])
              (fine_append (test.instrs ++ branch) body.instrs (fine_append test.instrs branch f.instrs (one test.value f.value, tt)) (l.0 place test.free))
              (none, tt),
          l.1.1,
        )
    statement_ints (grammar.If p c b q o) rest h =
        let k = expression_ints scope c (ASign sign.CloseParen ∷ ASign sign.OpenBrace ∷ statements_then b (AnEnd q ∷ otherwise_then o rest)) h.1.1 in
        let l = statements_ints b (AnEnd q ∷ otherwise_then o rest) k.1.1.1 in
        let m = otherwise_ints o rest l.1.1 in (
          λ at free.
              let test = evaluated scope at free c in
              let place = at + length test.instrs + 1 in
              let body = all_lowered scope place test.free b in
              let next = after_body at test body (goes_on o) in
              branched_ints p.line at test body (goes_on o) (lowered_otherwise scope next body.free o) (k.0 at free) (l.0 place test.free) (m.0 next body.free),
          m.1,
        )

    statements_ints : (ss : Statements) (rest : List Word) → AreInts (statements_then ss rest)
        → ((at free : ℕ) → AllFine (all_lowered scope at free ss).instrs) × AreInts rest
    statements_ints Nil rest h = (λ at free. tt, h)
    statements_ints (Cons s ss) rest h =
        let k = statement_ints s (statements_then ss rest) h in
        let l = statements_ints ss rest k.1 in (
          λ at free.
              let first = lowered scope at free s in
              let others = all_lowered scope (at + length first.instrs) first.free ss in
              fine_append first.instrs others.instrs (k.0 at free) (l.0 (at + length first.instrs) first.free),
          l.1,
        )

    otherwise_ints : (o : Otherwise) (rest : List Word) → AreInts (otherwise_then o rest)
        → ((at free : ℕ) → AllFine (lowered_otherwise scope at free o).instrs) × AreInts rest
    otherwise_ints Nothing rest h = (λ at free. tt, h)
    otherwise_ints (Else b q) rest h = let k = statements_ints b (AnEnd q ∷ rest) h.1.1 in (k.0, k.1.1)
    otherwise_ints (ElseIf p c b q o) rest h =
        let k = expression_ints scope c (ASign sign.CloseParen ∷ ASign sign.OpenBrace ∷ statements_then b (AnEnd q ∷ otherwise_then o rest)) h.1.1.1 in
        let l = statements_ints b (AnEnd q ∷ otherwise_then o rest) k.1.1.1 in
        let m = otherwise_ints o rest l.1.1 in (
          λ at free.
              let test = evaluated scope at free c in
              let place = at + length test.instrs + 1 in
              let body = all_lowered scope place test.free b in
              let next = after_body at test body (goes_on o) in
              branched_ints p.line at test body (goes_on o) (lowered_otherwise scope next body.free o) (k.0 at free) (l.0 place test.free) (m.0 next body.free),
          m.1,
        )

-- ---- programs

locals_ints : (ls : List Local) (rest : List Word) → AreInts (locals_then ls rest) → AreInts rest
locals_ints [] rest h = h
locals_ints (local.Int x ∷ ls) rest h = locals_ints ls rest h.1.1.1
locals_ints (local.Handle x ∷ ls) rest h = locals_ints ls rest h.1.1.1

other_parameters_ints : (xs : List Name) (rest : List Word) → AreInts (other_parameters_then xs rest) → AreInts rest
other_parameters_ints [] rest h = h
other_parameters_ints (x ∷ xs) rest h = other_parameters_ints xs rest h.1.1.1

parameters_ints : (xs : List Name) (rest : List Word) → AreInts (parameters_then xs rest) → AreInts rest
parameters_ints [] rest h = h
parameters_ints (x ∷ xs) rest h = other_parameters_ints xs rest h.1.1

-- for each scope and each place of the statements
abbrev pub BodyInts : Body → Type 0
BodyInts b = (scope : Name → Option Thing) (at free : ℕ) → AllFine (all_lowered scope at free b.statements).instrs

body_rest : (b : Body) (rest : List Word) → AreInts (body_then b rest) → BodyInts b × AreInts rest
body_rest b rest h =
    let s = locals_ints b.locals (statements_then b.statements (AnEnd b.end ∷ rest)) h.1 in (
      λ scope. (statements_ints scope b.statements (AnEnd b.end ∷ rest) s).0,
      (statements_ints (λ x. None) b.statements (AnEnd b.end ∷ rest) s).1.1,
    )

abbrev pub ThreadsInts : List Thread → Type 0
ThreadsInts [] = Unit {0}
ThreadsInts (t ∷ ts) = BodyInts t.body × ThreadsInts ts

threads_ints : (ts : List Thread) (rest : List Word) → AreInts (threads_then ts rest) → ThreadsInts ts × AreInts rest
threads_ints [] rest h = (tt, h)
threads_ints (t ∷ ts) rest h =
    let b = body_rest t.body (threads_then ts rest)
    (parameters_ints t.parameters (ASign sign.CloseParen ∷ body_then t.body (threads_then ts rest)) h.1.1.1).1 in
    let others = threads_ints ts rest b.1 in
    ((b.0, others.0), others.1)

globals_ints : (gs : List Global) (rest : List Word) → AreInts (globals_then gs rest) → All IsInt (memory_of gs) × AreInts rest
globals_ints [] rest h = (All-nil IsInt, h)
globals_ints (global.Int x Zero ∷ gs) rest h =
    let k = globals_ints gs rest h.1.1.1 in (All-cons IsInt (pos 0) (memory_of gs) nought k.0, k.1)
globals_ints (global.Int x (Plain n) ∷ gs) rest h =
    let k = globals_ints gs rest h.1.1.1.1.1 in (All-cons IsInt n.value (memory_of gs) h.1.1.1.0 k.0, k.1)
globals_ints (global.Int x (Negated n) ∷ gs) rest h =
    let k = globals_ints gs rest h.1.1.1.1.1.1 in (All-cons IsInt (negated n.value) (memory_of gs) (unary_int Neg n.value h.1.1.1.1.0) k.0, k.1)
globals_ints (global.Array a n ∷ gs) rest h =
    let k = globals_ints gs rest h.1.1.1.1.1.1 in
    (All-append IsInt (replicate (elements n.value) (pos 0)) (memory_of gs) (All-replicate IsInt (elements n.value) (pos 0) nought) k.0, k.1)
globals_ints (global.Mutex m ∷ gs) rest h = globals_ints gs rest h.1.1.1
globals_ints (global.Condition c ∷ gs) rest h = globals_ints gs rest h.1.1.1

pub record ProgramInts (p : Program) : Type 0 where
  pub memory : All IsInt (memory_of p.globals)
  pub threads : ThreadsInts p.threads
  pub main : BodyInts p.main

pub program_ints : (p : Program) → numbers.HasInts p → ProgramInts p
program_ints p h =
    let g = globals_ints p.globals (threads_then p.threads (AKeyword keyword.Main ∷ body_then p.main [])) h in
    let t = threads_ints p.threads (AKeyword keyword.Main ∷ body_then p.main []) g.1 in
    record { memory = g.0; threads = t.0; main = (body_rest p.main [] t.1.1).0 }
