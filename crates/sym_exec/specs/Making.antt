-- Adding terms of nodes and of expressions.
use Rattle.std.specs.Prelude.{◌≡◌, ℕ, ◌-◌, ◌^◌, ℤ, pos, ◌-ℤ◌, nat_lt, List, [], ◌∷◌, ◌++◌, fold, slice_index_or, if◌then◌else◌}
use Rattle.int_ops.specs.declared.arith.UnOp.TheVariants.{Neg}
use Rattle.int_ops.specs.declared.arith.BinOp.TheVariants.{Xor, Eq, And, Le}
use Rattle.tc_code.specs.Expr as expr
use Rattle.tc_code.specs.Expr.{Expr}
use Rattle.sym_terms.specs.Terms.{with_node, id_of}
use Rattle.sym_terms.specs.declared.node.Node.{Node}
use Rattle.sym_terms.specs.declared.node.Node.TheVariants.{Constant, Unary, Binary}

-- a term, and the nodes after adding it
pub record Made : Type 0 where
  pub term : ℕ
  pub nodes : List Node

-- terms, and the nodes after adding all of them
pub record AllMade : Type 0 where
  pub terms : List ℕ
  pub nodes : List Node

-- the term of a node
abbrev pub term_of_node : List Node → Node → Made
term_of_node nodes node = record { term = id_of nodes node; nodes = with_node nodes node }

-- the term of an expression, given the terms of the slots; its parts are added first, left to right
abbrev pub expr_term : List Node → List ℕ → Expr → Made
expr_term nodes slots (expr.Number n) = term_of_node nodes (Constant n)
expr_term nodes slots (expr.Slot k) = record { term = slice_index_or slots k 0; nodes = nodes }
expr_term nodes slots (expr.Unary op a) =
    let x = expr_term nodes slots a in term_of_node x.nodes (Unary op x.term)
expr_term nodes slots (expr.Binary op a b) =
    let x = expr_term nodes slots a in
    let y = expr_term x.nodes slots b in
    term_of_node y.nodes (Binary op x.term y.term)

-- the terms with that of one more expression, and the terms of a list of expressions
abbrev pub with_expr : List ℕ → AllMade → Expr → AllMade
with_expr slots xs e =
    let x = expr_term xs.nodes slots e in
    record { terms = xs.terms ++ x.term ∷ []; nodes = x.nodes }

abbrev pub expr_terms : List Node → List ℕ → List Expr → AllMade
expr_terms nodes slots es = fold (with_expr slots) (record { terms = []; nodes = nodes }) es

-- the test 0 <= x <= last, as the bitwise and of two comparisons, each of which is 1 or 0
abbrev pub range_test : Made → ℤ → Made
range_test x last =
    let zero = term_of_node x.nodes (Constant (pos 0)) in
    let low = term_of_node zero.nodes (Binary Le zero.term x.term) in
    let top = term_of_node low.nodes (Constant last) in
    let high = term_of_node top.nodes (Binary Le x.term top.term) in
    term_of_node high.nodes (Binary And low.term high.term)

-- the last index of an array of this length, but at most the greatest int
abbrev pub last_index : ℕ → ℤ
last_index length = if nat_lt (2 ^ 31) length then pos (2 ^ 31 - 1) else pos length -ℤ pos 1

-- The cell's value after a compare-and-exchange that finds v, expects e and would write f.
-- Terms have no conditional, so it is v ^ ((v ^ f) & -(v == e)).
abbrev pub replaced_term : List Node → (v e f : ℕ) → Made
replaced_term nodes v e f =
    let change = term_of_node nodes (Binary Xor v f) in
    let same = term_of_node change.nodes (Binary Eq v e) in
    let mask = term_of_node same.nodes (Unary Neg same.term) in
    let masked = term_of_node mask.nodes (Binary And change.term mask.term) in
    term_of_node masked.nodes (Binary Xor v masked.term)

-- `later` appends nodes to `nodes`, so existing terms keep their meaning
abbrev pub Grows : List Node → List Node → Type 0
Grows nodes later = (more : List Node) × (later ≡ nodes ++ more)
