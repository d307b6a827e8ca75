-- The instructions of expressions and statements are pieces whose loops nest.
use Rattle.std.proofs.Common.{ℕ, ◌+◌, ◌≤◌, Bool, true, false, List, [], ◌∷◌, ◌++◌, length, Option, Some, None, refl, arith}
use Rattle.tc_code.specs.int_ops.declared.arith.BinOp.{BinOp}
use Rattle.tc_code.specs.int_ops.declared.update.Update.{Update}
use Rattle.tc_code.specs.int_ops.declared.update.Update.TheVariants as update
use Rattle.tc_code.specs.Expr as code
use Rattle.tc_code.specs.declared.instr.Instr.{Instr}
use Rattle.tc_code.specs.declared.instr.Instr.TheVariants.{Branch, Goto, Set}
use Rattle.tc_tree.specs.declared.expression.Name.{Name}
use Rattle.tc_tree.specs.declared.expression.Operator.{Operator}
use Rattle.tc_tree.specs.Grammar as grammar
use Rattle.tc_tree.specs.Grammar.{Expression, Number, Variable, Element, Paren, Unary, Binary}
use Rattle.tc_tree.specs.Grammar.{Statement, Statements, Nil, Cons, Otherwise, Nothing, Else, ElseIf}
use Rattle.tc_lower.specs.Values.{Evaluated, over_both, decided, undecided, joined, evaluated, arguments}
use Rattle.tc_lower.specs.Statements.{indexed, updating, stored, passing, goes_on, lowered, all_lowered, lowered_otherwise}
use Rattle.places.proofs.code_loops.Nesting.{Piece, Nest, nest, both, falls, ahead, back, beyond, to_end}

joined_nest : (o : Option BinOp) (op : Operator) (at : ℕ) (p : Evaluated) (right : ℕ → ℕ → Evaluated) → Nest at p.instrs
    → ((place slot : ℕ) → Nest place (right place slot).instrs) → Nest at (joined o op at p right).instrs
joined_nest (Some o) op at p right a b = both (both a (b _ _)) (falls (grind arith))
joined_nest None op at p right a b =
    let m = at + length p.instrs in
    let end = m + 2 + length (right (m + 2) (p.free + 1)).instrs + 1 in
    let set : Piece m (m + 1) end (Set p.free (code.Number (decided op)) ∷ []) = (falls refl).piece end in
    let skip : Piece (m + 1) (m + 2) end (Branch (undecided op p.value) end ∷ []) = ahead refl (omega arith) (omega arith) in
    let sides = beyond (omega arith) (beyond (omega arith) (a.piece end) (beyond (omega arith) set skip)) ((b _ _).piece end) in
    nest (λ x. to_end sides ((falls refl).piece x))

-- the jump past what follows the body of an `if`
passed : (n end : ℕ) (more : Bool) → n + length (passing more 0) ≤ end → Piece n (n + length (passing more 0)) end (passing more end)
passed n end false up = (falls refl).piece end
passed n end true up = ahead refl refl up

looped_nest : {at : ℕ} {test body : List Instr} (c : code.Expr) → Nest at test → Nest (at + length test + 1) body
    → Nest at (test ++ Branch c (at + length test + 1 + length body + 1) ∷ [] ++ body ++ Goto at ∷ [])
looped_nest {at} {test} {body} c a b =
    let end = at + length test + 1 + length body + 1 in
    nest (λ x. back x (beyond (omega arith) (beyond (omega arith) (a.piece end) (ahead refl refl (omega arith))) (b.piece end)))

branched_nest : {at : ℕ} {test body others : List Instr} (c : code.Expr) (more : Bool) → Nest at test → Nest (at + length test + 1) body
    → let next = at + length test + 1 + length body + length (passing more 0) in
    Nest next others → Nest at (test ++ Branch c next ∷ [] ++ body ++ passing more (next + length others) ++ others)
branched_nest {at} {test} {body} {others} c more a b o =
    let n = at + length test + 1 + length body in
    let next = n + length (passing more 0) in
    let tested = beyond (omega arith) (beyond (omega arith) (a.piece next) (ahead refl refl (omega arith))) (b.piece next) in
    nest (λ x. to_end (to_end tested (passed n (next + length others) more (omega arith))) (o.piece x))

evaluated_nest : (scope : _) (e : Expression) (at free : ℕ) → Nest at (evaluated scope at free e).instrs
evaluated_nest scope (Number n) at free = falls refl
evaluated_nest scope (Variable x) at free = falls (grind arith)
evaluated_nest scope (Element a i) at free = both (evaluated_nest scope i at free) (falls (grind arith))
evaluated_nest scope (Paren e) at free = evaluated_nest scope e at free
evaluated_nest scope (Unary op e) at free = evaluated_nest scope e at free
evaluated_nest scope (Binary op a b) at free =
    joined_nest (over_both op) op at (evaluated scope at free a) (λ place slot. evaluated scope place slot b) (evaluated_nest scope a at free)
    (evaluated_nest scope b)

arguments_nest : (scope : _) (es : List Expression) (at free : ℕ) → Nest at (arguments scope at free es).instrs
arguments_nest scope [] at free = falls refl
arguments_nest scope (e ∷ es) at free = both (evaluated_nest scope e at free) (arguments_nest scope es _ _)

stored_nest : (scope : _) (a : Name) (i e : Expression) (at free : ℕ) → Nest at (stored scope at free a i e).instrs
stored_nest scope a i e at free =
    nest (λ x. to_end (to_end (to_end ((evaluated_nest scope i at free).piece _) ((falls (grind arith)).piece _)) ((evaluated_nest scope e _ _).piece _))
    ((falls (grind arith)).piece x))

indexed_nest : (scope : _) (x : Name) (i : Option Expression) (at free : ℕ) → Nest at (indexed scope at free x i).instrs
indexed_nest scope x None at free = falls refl
indexed_nest scope x (Some i) at free = both (evaluated_nest scope i at free) (falls (grind arith))

updating_nest : (scope : _) (u : Update Expression) (at free : ℕ) → Nest at (updating scope at free u).instrs
updating_nest scope (update.Swap e) at free = evaluated_nest scope e at free
updating_nest scope (update.Cas e new) at free = both (evaluated_nest scope e at free) (evaluated_nest scope new _ _)
updating_nest scope (update.Add e) at free = evaluated_nest scope e at free

mutual
  lowered_nest : (scope : _) (s : Statement) (at free : ℕ) → Nest at (lowered scope at free s).instrs
  lowered_nest scope (grammar.Assign x e) at free = both (evaluated_nest scope e at free) (falls (grind arith))
  lowered_nest scope (grammar.Store a i e) at free = stored_nest scope a i e at free
  lowered_nest scope (grammar.Create h f es) at free = both (arguments_nest scope es at free) (falls (grind arith))
  lowered_nest scope (grammar.Modify r x i u) at free = both (both (indexed_nest scope x i at free) (updating_nest scope u _ _)) (falls (grind arith))
  lowered_nest scope (grammar.Act p a x) at free = falls (grind arith)
  lowered_nest scope (grammar.Wait p c m) at free = falls (grind arith)
  lowered_nest scope (grammar.Order p b) at free = falls (grind arith)
  lowered_nest scope (grammar.Assert p e) at free = both (evaluated_nest scope e at free) (falls refl)
  lowered_nest scope (grammar.While p c b q) at free = looped_nest _ (evaluated_nest scope c at free) (all_nest scope b _ _)
  lowered_nest scope (grammar.If p c b q o) at free =
      branched_nest _ (goes_on o) (evaluated_nest scope c at free) (all_nest scope b _ _) (otherwise_nest scope o _ _)

  pub all_nest : (scope : _) (ss : Statements) (at free : ℕ) → Nest at (all_lowered scope at free ss).instrs
  all_nest scope Nil at free = falls refl
  all_nest scope (Cons s ss) at free = both (lowered_nest scope s at free) (all_nest scope ss _ _)

  otherwise_nest : (scope : _) (o : Otherwise) (at free : ℕ) → Nest at (lowered_otherwise scope at free o).instrs
  otherwise_nest scope Nothing at free = falls refl
  otherwise_nest scope (Else b q) at free = all_nest scope b at free
  otherwise_nest scope (ElseIf p c b q o) at free =
      branched_nest _ (goes_on o) (evaluated_nest scope c at free) (all_nest scope b _ _) (otherwise_nest scope o _ _)
