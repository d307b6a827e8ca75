-- The numbers in the terms of lawful code's paths are ints.
use Rattle.std.proofs.Common.{◌≡◌, ◌≤◌, ℕ, zero, suc, ◌^◌, ℤ, pos, List, [], ◌∷◌, ◌++◌, fold, length, ◌+◌, ◌-◌, Bool, true, false, cond, Option, Some, None}
use Rattle.std.proofs.Common.{refl, subst, sym, arith}
use Rattle.std.specs.Prelude.{nat_lt, ◌-ℤ◌}
use Rattle.std.specs.List.{All, list_any}
use Rattle.std.proofs.lemmas.Bool.{ltb-false}
use Rattle.std.proofs.lemmas.List.Elements.{All-nil, All-cons, All-head, All-tail, All-push}
use Rattle.int_ops.specs.Arith.{IsInt}
use Rattle.int_ops.specs.Updates.{operands_of}
use Rattle.int_ops.specs.declared.update.Update.{Update}
use Rattle.int_ops.specs.declared.update.Update.TheVariants as update
use Rattle.int_ops.proofs.Ints.{truth_int}
use Rattle.int_ops.specs.declared.arith.UnOp.TheVariants.{Neg}
use Rattle.int_ops.specs.declared.arith.BinOp.TheVariants.{Add, Xor, Eq, And, Le}
use Rattle.tc_code.specs.Code.{Code, instr_at}
use Rattle.tc_code.specs.Expr as expr
use Rattle.tc_code.specs.Expr.{Expr, HasInts}
use Rattle.tc_code.specs.Lawful.{IsLawful, index_of, exprs_of}
use Rattle.tc_code.specs.declared.cell.Cell.{Cell}
use Rattle.tc_code.specs.declared.cell.Cell.TheVariants.{Fixed, Element}
use Rattle.tc_code.specs.declared.instr.Instr.{Instr}
use Rattle.tc_code.specs.declared.instr.Instr.TheVariants.{Set, Load, Store, Inside, Branch, Create, Assert, Nonzero, InRange, Modify}
use Rattle.tc_code.proofs.Facts.{placed}
use Rattle.run_laws.proofs.Basics.{either}
use Rattle.path_walk.specs.Paths.{Walk, Paths}
use Rattle.sym_terms.specs.Terms.{same_node, with_node}
use Rattle.sym_terms.specs.declared.node.Node.{Node}
use Rattle.sym_terms.specs.declared.node.Node.TheVariants.{Constant, Symbol, Unary, Binary}
use Rattle.sym_exec.specs.Making.{Made, AllMade, term_of_node, expr_term, with_expr, range_test, last_index, replaced_term}
use Rattle.sym_exec.specs.Thread.{Doing, term_in, with_term, with_nodes, cell_of, update_terms, updated_term, after_instr, after_step, after_all, Route, route_of}
use Rattle.sym_exec.specs.Executed.{Executed, fails_at, thread_started, with_thread, nothing, executed}
use Rattle.sym_exec.specs.Ints.{HasInt}
use Rattle.sym_exec.proofs.Sound.{stepped_by}
use Rattle.sym_exec.proofs.Tells.{one_less}

abbrev HaveInts : List Node → Type 0
HaveInts nodes = All HasInt nodes

-- making a node adds at most that node
with_int : (nodes : List Node) (node : Node) → HaveInts nodes → HasInt node → HaveInts (with_node nodes node)
with_int nodes node are is = either HaveInts (list_any (same_node node) nodes) nodes (nodes ++ node ∷ []) are (All-push HasInt nodes node are is)

expr_ints : (nodes : List Node) (slots : List ℕ) (e : Expr) → HaveInts nodes → HasInts e → HaveInts (expr_term nodes slots e).nodes
expr_ints nodes slots (expr.Number n) are is = with_int nodes (Constant n) are is
expr_ints nodes slots (expr.Slot k) are is = are
expr_ints nodes slots (expr.Unary op a) are is =
    let x = expr_term nodes slots a in with_int x.nodes (Unary op x.term) (expr_ints nodes slots a are is) tt
expr_ints nodes slots (expr.Binary op a b) are is =
    let x = expr_term nodes slots a in
    let y = expr_term x.nodes slots b in
    with_int y.nodes (Binary op x.term y.term) (expr_ints x.nodes slots b (expr_ints nodes slots a are is.0) is.1) tt

exprs_ints : (slots : List ℕ) (es : List Expr) (xs : AllMade) → HaveInts xs.nodes → All HasInts es → HaveInts (fold (with_expr slots) xs es).nodes
exprs_ints slots [] xs are is = are
exprs_ints slots (e ∷ es) xs are is =
    exprs_ints slots es (with_expr slots xs e) (expr_ints xs.nodes slots e are (All-head HasInts e es is)) (All-tail HasInts e es is)

range_ints : (x : Made) (last : ℤ) → HaveInts x.nodes → IsInt last → HaveInts (range_test x last).nodes
range_ints x last are is =
    let zero = term_of_node x.nodes (Constant (pos 0)) in
    let low = term_of_node zero.nodes (Binary Le zero.term x.term) in
    let top = term_of_node low.nodes (Constant last) in
    let high = term_of_node top.nodes (Binary Le x.term top.term) in
    with_int high.nodes (Binary And low.term high.term)
    (with_int top.nodes (Binary Le x.term top.term)
    (with_int low.nodes (Constant last)
    (with_int zero.nodes (Binary Le zero.term x.term) (with_int x.nodes (Constant (pos 0)) are (truth_int false)) tt) is) tt) tt

replaced_ints : (nodes : List Node) (v e f : ℕ) → HaveInts nodes → HaveInts (replaced_term nodes v e f).nodes
replaced_ints nodes v e f are =
    let change = term_of_node nodes (Binary Xor v f) in
    let same = term_of_node change.nodes (Binary Eq v e) in
    let mask = term_of_node same.nodes (Unary Neg same.term) in
    let masked = term_of_node mask.nodes (Binary And change.term mask.term) in
    with_int masked.nodes (Binary Xor v masked.term)
    (with_int mask.nodes (Binary And change.term mask.term)
    (with_int same.nodes (Unary Neg same.term) (with_int change.nodes (Binary Eq v e) (with_int nodes (Binary Xor v f) are tt) tt) tt) tt) tt

-- the last index of an array is an int
last_int : (len : ℕ) → IsInt (last_index len)
last_int len = by (nat_lt (2 ^ 31) len) refl
  where
    one_before : (n : ℕ) → n ≤ 2 ^ 31 → IsInt (pos n -ℤ pos 1)
    one_before zero few = omega arith
    one_before (suc n) few = subst IsInt (sym (one_less n)) (omega (arith, few))

    by : (b : Bool) → nat_lt (2 ^ 31) len ≡ b → IsInt (cond b (pos (2 ^ 31 - 1)) (pos len -ℤ pos 1))
    by true e = omega arith
    by false e = one_before len (ltb-false (2 ^ 31) len e)

first_ints : (d : Doing) (e : Expr) (es : List Expr) → HaveInts d.nodes → All HasInts (e ∷ es) → HaveInts (term_in d e).nodes
first_ints d e es are is = expr_ints d.nodes d.slots e are (All-head HasInts e es is)

second_ints : (d : Doing) (a b : Expr) → HaveInts d.nodes → All HasInts (a ∷ b ∷ []) → HaveInts (term_in (with_term d (term_in d a)) b).nodes
second_ints d a b are is = first_ints (with_term d (term_in d a)) b [] (first_ints d a (b ∷ []) are is) (All-tail HasInts a (b ∷ []) is)

-- the index of a cell, and the operands of an update
reached_ints : (d : Doing) (c : Cell Expr) → HaveInts d.nodes → All HasInts (index_of c) → HaveInts (cell_of d c).nodes
reached_ints d (Fixed c) are is = are
reached_ints d (Element first len i) are is = first_ints d i [] are is

parts_ints : (c : Cell Expr) (es : List Expr) → All HasInts (index_of c ++ es) → All HasInts (index_of c) × All HasInts es
parts_ints (Fixed c) es is = (All-nil HasInts, is)
parts_ints (Element first len i) es is = (All-cons HasInts i [] (All-head HasInts i es is) (All-nil HasInts), All-tail HasInts i es is)

operands_ints : (d : Doing) (u : Update Expr) → HaveInts d.nodes → All HasInts (operands_of u) → HaveInts (update_terms d u).nodes
operands_ints d (update.Swap e) are is = first_ints d e [] are is
operands_ints d (update.Cas e new) are is = second_ints d e new are is
operands_ints d (update.Add e) are is = first_ints d e [] are is

updated_ints : (nodes : List Node) (u : Update ℕ) (v : ℕ) → HaveInts nodes → HaveInts (updated_term nodes u v).nodes
updated_ints nodes (update.Swap x) v are = are
updated_ints nodes (update.Cas x y) v are = replaced_ints nodes v x y are
updated_ints nodes (update.Add x) v are = with_int nodes (Binary Add v x) are tt

-- after an instruction of ints
instr_ints : (line : ℕ) (wanted : Bool) (d : Doing) (i : Instr) → HaveInts d.nodes → All HasInts (exprs_of i) → HaveInts (after_instr line wanted d i).nodes
instr_ints line wanted d (Set k e) are is = first_ints d e [] are is
instr_ints line wanted d (Load k c) are is = with_int (cell_of d c).nodes (Symbol d.loads) (reached_ints d c are is) tt
instr_ints line wanted d (Store c e) are is =
    let p = parts_ints c (e ∷ []) is in
    first_ints (with_nodes d (cell_of d c).nodes) e [] (reached_ints d c are p.0) p.1
instr_ints line wanted d (Inside len i) are is = range_ints (term_in d i) (last_index len) (first_ints d i [] are is) (last_int len)
instr_ints line wanted d (Branch e to) are is = first_ints d e [] are is
instr_ints line wanted d (Create h f es) are is = exprs_ints d.slots es (record { terms = []; nodes = d.nodes }) are is
instr_ints line wanted d (Assert e) are is = first_ints d e [] are is
instr_ints line wanted d (Nonzero e) are is = first_ints d e [] are is
instr_ints line wanted d (InRange e) are is = range_ints (term_in d e) (pos 31) (first_ints d e [] are is) (omega arith)
instr_ints line wanted d (Modify k c u) are is =
    let p = parts_ints c (operands_of u) is in
    let x = with_nodes d (cell_of d c).nodes in
    let y = update_terms x u in
    let v = term_of_node y.nodes (Symbol d.loads) in
    updated_ints v.nodes y.update v.term (with_int y.nodes (Symbol d.loads) (operands_ints x u (reached_ints d c are p.0) p.1) tt)
instr_ints line wanted d _ are is = are

-- after the steps of a thread
steps_ints : (r : Route) → IsLawful r.code → (places : List ℕ) (d : Doing) → HaveInts d.nodes → HaveInts (after_all r d places).nodes
steps_ints r lawful [] d are = are
steps_ints r lawful (place ∷ places) d are =
    steps_ints r lawful places (after_step r d place) (by (instr_at r.code r.function place) refl)
  where
    by : (o : Option Instr) → instr_at r.code r.function place ≡ o → HaveInts (stepped_by r d place o).nodes
    by None at = are
    by (Some i) at = let p = placed r.code r.function place i lawful at in instr_ints _ _ d i are (p.lawful.ints place i p.at)

module _ (code : Code) (lawful : IsLawful code) where
  -- the constants of all threads are ints
  threads_ints : (paths : Paths) (ws : List Walk) (x : Executed) → HaveInts x.nodes → HaveInts (fold (with_thread code paths) x ws).nodes
  threads_ints paths [] x are = are
  threads_ints paths (w ∷ ws) x are =
      threads_ints paths ws (with_thread code paths x w)
      (steps_ints (route_of code w (fails_at paths (length x.symbolic.threads) w)) lawful w.places (thread_started code x w)
      (with_int x.nodes (Constant (pos 0)) are (truth_int false)))

  pub executed_ints : (paths : Paths) (nodes : List Node) → HaveInts nodes → HaveInts (executed code paths nodes).nodes
  executed_ints paths nodes are = threads_ints paths paths.threads (nothing nodes) are
