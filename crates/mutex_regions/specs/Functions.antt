-- A region as a function of the state before it. Slot k of an expression is what the k-th cell holds
-- in that state. Where a value depends on more, there is no expression.
use Rattle.std.specs.Prelude.{ℕ, zero, suc, pos, ◌==◌, ◌&&◌, Bool, true, false, nat_le, if◌then◌else◌, List, [], ◌∷◌, ◌++◌, fold, filter, map, Option, Some, None, get_or, option_and_then, is_some}
use Rattle.std.specs.List.{enumerate_from, find, list_all}
use Rattle.std.specs.Option.{option_map_or}
use Rattle.std.specs.Ordering.{int_eq}
use Rattle.int_ops.specs.declared.arith.BinOp.{BinOp}
use Rattle.int_ops.specs.declared.arith.BinOp.TheVariants as bin
use Rattle.int_ops.specs.declared.arith.UnOp.TheVariants as un
use Rattle.tc_code.specs.Expr as expr
use Rattle.tc_code.specs.Expr.{Expr}
use Rattle.sym_terms.specs.declared.node.Node.{Node}
use Rattle.sym_terms.specs.declared.node.Node.TheVariants.{Constant, Symbol, Unary, Binary}
use Rattle.path_walk.specs.declared.event.Region.{Region}
use Rattle.sym_exec.specs.declared.symbolic.Access.{Access}
use Rattle.sym_exec.specs.tc_code.declared.cell.Cell.{Cell}
use Rattle.sym_exec.specs.tc_code.declared.cell.Cell.TheVariants.{Fixed, Element}
use Rattle.order_events.specs.lawful_order.Events.{Placed}
use Rattle.mutex_regions.specs.Regions.{lies_in}
use Rattle.mutex_regions.specs.Variables.{is_among, same_variable, spots_of, variable_of}
use Rattle.mutex_regions.specs.declared.functions.Holding.{Holding}
use Rattle.mutex_regions.specs.declared.functions.Loaded.{Loaded}
use Rattle.mutex_regions.specs.declared.variables.Variable.{Variable}

-- what a region has done so far: what the cells hold now, and its loads
pub record Doing : Type 0 where
  pub cells : List Holding
  pub loads : List Loaded

-- an expression, unless it is large
abbrev pub kept : Expr → Option Expr
kept e = if nat_le (expr.size e) 256 then Some e else None

-- an expression of another, and of two others, if there are all
abbrev pub of_one : (Expr → Expr) → Option Expr → Option Expr
of_one f x = option_and_then (λ a. kept (f a)) x

abbrev pub of_two : (Expr → Expr → Expr) → Option Expr → Option Expr → Option Expr
of_two f x y = option_and_then (λ a. of_one (f a) y) x

-- operators whose circuits are large have no expression
abbrev pub is_dear : BinOp → Bool
is_dear bin.Mul = true
is_dear bin.Div = true
is_dear bin.Rem = true
is_dear bin.Shl = true
is_dear bin.Shr = true
is_dear _ = false

-- a term of the log as an expression: of loads of the region, and at most `levels` deep
abbrev pub node_expr : (ℕ → Option Expr) → List Loaded → Node → Option Expr
node_expr below loads (Constant n) = Some (expr.Number n)
node_expr below loads (Symbol l) = option_and_then (λ x. x.value) (find (λ x. x.load == l) loads)
node_expr below loads (Unary op a) = of_one (expr.Unary op) (below a)
node_expr below loads (Binary op a b) =
    if is_dear op then None else of_two (expr.Binary op) (below a) (below b)

abbrev pub term_expr : List Node → List Loaded → (levels term : ℕ) → Option Expr
term_expr nodes loads zero term = None
term_expr nodes loads (suc n) term =
    node_expr (term_expr nodes loads n) loads (get_or nodes term (Constant (pos 0)))

-- an expression if a comparison of the index with k comes out true, else 0
abbrev pub masked : (test : BinOp) → (index : Expr) → (k : ℕ) → Expr → Expr
masked test index k e =
    expr.Binary bin.And e (expr.Unary un.Neg (expr.Binary test index (expr.Number (pos k))))

-- `new` if the index is k, else `old`; expressions have no conditional
abbrev pub choice : (index : Expr) → (k : ℕ) → (new old : Expr) → Expr
choice index k new old =
    expr.Binary bin.Or (masked bin.Eq index k new) (masked bin.Ne index k old)

-- the same where an index that is a number decides
abbrev pub where_is : (index : Expr) → (k : ℕ) → (new old : Option Expr) → Option Expr
where_is (expr.Number n) k new old = if int_eq n (pos k) then new else old
where_is index k new old = of_two (choice index k) new old

-- a holding's value, if the index is that of its cell, else `old`
abbrev pub here_or : Option Expr → Option Expr → Holding → Option Expr
here_or index old x = option_and_then (λ i. where_is i x.spot.index x.value old) index

-- what a variable's cells hold at an index: a choice among them
abbrev pub chosen : Option Expr → List Holding → Option Expr
chosen index [] = None
chosen index (first ∷ others) = fold (here_or index) first.value others

-- a cell after a store of a value at an index of a variable
abbrev pub stored : Variable → (index value : Option Expr) → Holding → Holding
stored v index value x =
    if same_variable x.spot.variable v
    then record x { value = option_and_then (λ i. where_is i x.spot.index value x.value) index }
    else x

module _ (nodes : List Node) where
  -- a term, and the index of a cell in its variable, as expressions
  abbrev pub term_over : List Loaded → ℕ → Option Expr
  term_over loads term = term_expr nodes loads 8 term

  abbrev pub index_over : List Loaded → Cell ℕ → Option Expr
  index_over loads (Fixed c) = Some (expr.Number (pos 0))
  index_over loads (Element f n i) = term_over loads i

  -- an access loads, then stores
  abbrev pub with_load : Cell ℕ → Doing → ℕ → Doing
  with_load c d l =
      let own = filter (λ x. same_variable x.spot.variable (variable_of c)) d.cells in
      record d
      { loads = d.loads ++ record { load = l; value = chosen (index_over d.loads c) own } ∷ [] }

  abbrev pub with_store : Cell ℕ → Doing → ℕ → Doing
  with_store c d term = record d {
    cells = map (stored (variable_of c) (index_over d.loads c) (term_over d.loads term)) d.cells;
  }

  abbrev pub with_access : Doing → Placed Access → Doing
  with_access d a =
      let loaded = option_map_or (with_load a.it.cell d) a.it.takes d in
      option_map_or (with_store a.it.cell loaded) a.it.writes loaded

-- before a region each cell is a slot
abbrev pub at_begin : List Variable → Doing
at_begin vs = record {
  cells = map (λ p. record { spot = p.1; value = Some (expr.Slot p.0) })
      (enumerate_from 0 (spots_of vs));
  loads = [];
}

-- whether a region's access is to one of the variables
abbrev pub is_used : List Variable → Placed Region → Placed Access → Bool
is_used vs r a = lies_in r a && is_among vs (variable_of a.it.cell)

-- what a region does
abbrev pub function_of : List Node → List Variable → List (Placed Access) → Placed Region → Doing
function_of nodes vs accesses r =
    fold (with_access nodes) (at_begin vs) (filter (is_used vs r) accesses)

-- whether what a region leaves in the cells is a function of the state
abbrev pub is_closed : Doing → Bool
is_closed d = list_all (λ x. is_some x.value) d.cells
