-- The symbolic execution of one thread.
use Rattle.std.specs.Prelude.{ℕ, ◌<◌, ◌+◌, ◌-◌, ◌==◌, pos, Bool, true, not, Option, Some, None, unwrap_or, length, replicate}
use Rattle.std.specs.Prelude.{List, [], ◌∷◌, ◌++◌, fold, slice_set, slice_index_or}
use Rattle.std.specs.List.{All}
use Rattle.std.specs.Option.{option_map_or}
use Rattle.int_ops.specs.declared.arith.BinOp.TheVariants as operator
use Rattle.int_ops.specs.declared.update.Update.{Update}
use Rattle.int_ops.specs.declared.update.Update.TheVariants as update
use Rattle.tc_code.specs.Code.{Code, instr_at, line_at}
use Rattle.tc_code.specs.Expr.{Expr}
use Rattle.tc_code.specs.declared.cell.Cell.{Cell}
use Rattle.tc_code.specs.declared.cell.Cell.TheVariants.{Fixed, Element}
use Rattle.tc_code.specs.declared.instr.Instr.{Instr}
use Rattle.tc_code.specs.declared.instr.Instr.TheVariants.{Set, Load, Store, Inside, Branch, Create, Assert, Nonzero, InRange, Modify}
use Rattle.path_walk.specs.Paths.{Walk}
use Rattle.sym_terms.specs.declared.node.Node.{Node}
use Rattle.sym_terms.specs.declared.node.Node.TheVariants.{Constant, Symbol, Binary}
use Rattle.sym_exec.specs.Making.{Made, term_of_node, expr_term, expr_terms, range_test, last_index, replaced_term}
use Rattle.sym_exec.specs.declared.symbolic.Test.{Test}
use Rattle.sym_exec.specs.declared.symbolic.Access.{Access}

-- a create: its step, and the terms of the arguments that it hands to the child
pub record Handed : Type 0 where
  pub step : ℕ
  pub terms : List ℕ

-- a thread's execution so far
pub record Doing : Type 0 where
  pub nodes : List Node
  -- the term of each slot
  pub slots : List ℕ
  -- the number of loads so far, in the earlier threads and in this one
  pub loads : ℕ
  -- the number of steps so far, and of branches among them
  pub steps : ℕ
  pub branches : ℕ
  pub tests : List Test
  pub accesses : List Access
  pub creates : List Handed

-- every term is an index into the nodes
abbrev pub AreOf : List Node → List ℕ → Type 0
AreOf nodes terms = All (λ term. term < length nodes) terms

-- every term that a create hands over is an index into the nodes
abbrev pub HandsOf : List Node → Handed → Type 0
HandsOf nodes h = AreOf nodes h.terms

-- the terms of slots and creates are indexes into the execution's nodes
pub record HasTerms (d : Doing) : Type 0 where
  pub slots : AreOf d.nodes d.slots
  pub creates : All (HandsOf d.nodes) d.creates

-- the start of an execution: the first slots have the arguments' terms, and the others 0
abbrev pub started : ℕ → List ℕ → ℕ → List Node → Doing
started ints arguments loads nodes =
    let zero = term_of_node nodes (Constant (pos 0)) in
    record {
      nodes = zero.nodes;
      slots = arguments ++ replicate (ints - length arguments) zero.term;
      loads = loads;
      steps = 0;
      branches = 0;
      tests = [];
      accesses = [];
      creates = [];
    }

-- the term of an expression over the slots
abbrev pub term_in : Doing → Expr → Made
term_in d e = expr_term d.nodes d.slots e

-- adds a term
abbrev pub with_term : Doing → Made → Doing
with_term d x = record d { nodes = x.nodes }

-- sets a slot to a term
abbrev pub with_slot : Doing → ℕ → Made → Doing
with_slot d k x = record d { slots = slice_set d.slots k x.term; nodes = x.nodes }

-- appends the test that a term is nonzero, or that it is 0
abbrev pub with_test : Doing → ℕ → Bool → Made → Doing
with_test d line wanted x =
    record d {
      nodes = x.nodes;
      tests = d.tests
          ++ record { step = d.steps; line = line; term = x.term; wanted = wanted } ∷ [];
    }

-- appends a store of a term to a cell
abbrev pub with_store : Doing → Cell ℕ → Made → Doing
with_store d cell x =
    record d {
      nodes = x.nodes;
      accesses = d.accesses
          ++ record { step = d.steps; cell = cell; takes = None; writes = Some x.term } ∷ [];
    }

-- the symbol of the next load
abbrev pub symbol_in : Doing → Made
symbol_in d = term_of_node d.nodes (Symbol d.loads)

-- appends a load of a cell into a slot, and a store of `writes` to the same cell if it is given
abbrev pub with_load : Doing → ℕ → Cell ℕ → ℕ → Option ℕ → Doing
with_load d k cell symbol writes = record d {
  slots = slice_set d.slots k symbol;
  loads = d.loads + 1;
  accesses =
      d.accesses
      ++ record { step = d.steps; cell = cell; takes = Some d.loads; writes = writes } ∷ [];
}

-- loads a cell into a slot
abbrev pub reading : Doing → ℕ → Cell ℕ → Doing
reading d k cell = let v = symbol_in d in with_load (with_term d v) k cell v.term None

-- the execution with more nodes
abbrev pub with_nodes : Doing → List Node → Doing
with_nodes d nodes = record d { nodes = nodes }

-- an update over terms
pub record Updating : Type 0 where
  pub update : Update ℕ
  pub nodes : List Node

-- the terms of an update's operands, in order
abbrev pub update_terms : Doing → Update Expr → Updating
update_terms d (update.Swap e) =
    let x = term_in d e in record { update = update.Swap x.term; nodes = x.nodes }
update_terms d (update.Cas e new) =
    let x = term_in d e in
    let y = term_in (with_term d x) new in
    record { update = update.Cas x.term y.term; nodes = y.nodes }
update_terms d (update.Add e) =
    let x = term_in d e in record { update = update.Add x.term; nodes = x.nodes }

-- the term that an update stores, given the term that it loads
abbrev pub updated_term : List Node → Update ℕ → ℕ → Made
updated_term nodes (update.Swap x) v = record { term = x; nodes = nodes }
updated_term nodes (update.Cas x y) v = replaced_term nodes v x y
updated_term nodes (update.Add x) v = term_of_node nodes (Binary operator.Add v x)

-- updates a cell: loads it into a slot, and stores the updated term to it
abbrev pub with_update : Doing → ℕ → Cell ℕ → Update Expr → Doing
with_update d k cell u =
    let x = update_terms d u in
    let v = symbol_in (with_nodes d x.nodes) in
    let w = updated_term v.nodes x.update v.term in
    with_load (with_term d w) k cell v.term (Some w.term)

-- the cell that an instruction accesses, with the nodes of its index
pub record Reached : Type 0 where
  pub cell : Cell ℕ
  pub nodes : List Node

abbrev pub cell_of : Doing → Cell Expr → Reached
cell_of d (Fixed c) = record { cell = Fixed c; nodes = d.nodes }
cell_of d (Element first len i) =
    let x = term_in d i in record { cell = Element first len x.term; nodes = x.nodes }

-- appends a create that hands the terms of expressions to a child
abbrev pub with_handed_terms : Doing → List Expr → Doing
with_handed_terms d es =
    let xs = expr_terms d.nodes d.slots es in
    record d
    { nodes = xs.nodes; creates = d.creates ++ record { step = d.steps; terms = xs.terms } ∷ [] }

-- the execution after an instruction at `line`, where `wanted` is the wanted outcome of a test
abbrev pub after_instr : ℕ → Bool → Doing → Instr → Doing
after_instr line wanted d (Set k e) = with_slot d k (term_in d e)
after_instr line wanted d (Load k c) =
    let x = cell_of d c in reading (with_nodes d x.nodes) k x.cell
after_instr line wanted d (Store c e) =
    let x = cell_of d c in with_store d x.cell (term_in (with_nodes d x.nodes) e)
after_instr line wanted d (Inside len i) =
    with_test d line wanted (range_test (term_in d i) (last_index len))
after_instr line wanted d (Branch e to) =
    record (with_test d line wanted (term_in d e)) { branches = d.branches + 1 }
after_instr line wanted d (Create h f es) = with_handed_terms d es
after_instr line wanted d (Assert e) = with_test d line wanted (term_in d e)
after_instr line wanted d (Nonzero e) = with_test d line wanted (term_in d e)
after_instr line wanted d (InRange e) = with_test d line wanted (range_test (term_in d e) (pos 31))
after_instr line wanted d (Modify k c u) =
    let x = cell_of d c in with_update (with_nodes d x.nodes) k x.cell u
after_instr line wanted d _ = d

-- the wanted outcome: a branch's as the path has it; other tests pass, except in the failing step
abbrev pub wanted_of : List Bool → Option ℕ → Doing → Instr → Bool
wanted_of outcomes fails d (Branch e to) = slice_index_or outcomes d.branches true
wanted_of outcomes None d i = true
wanted_of outcomes (Some k) d i = not (d.steps == k)

-- what a path fixes: its function, the outcomes of its branches, and the step in which it fails
pub record Route : Type 0 where
  pub code : Code
  pub function : ℕ
  pub outcomes : List Bool
  pub fails : Option ℕ

-- the route of a walk that fails in this step, if in any
abbrev pub route_of : Code → Walk → Option ℕ → Route
route_of code w fails =
    record { code = code; function = w.function; outcomes = w.outcomes; fails = fails }

-- the execution after the step that does this instruction, which is at a place
abbrev pub after_done : Route → Doing → ℕ → Instr → Doing
after_done r d place i =
    record (after_instr (unwrap_or (line_at r.code r.function place) 0)
    (wanted_of r.outcomes r.fails d i) d i) { steps = d.steps + 1 }

-- the execution after the instruction at a place, if there is one
abbrev pub after_step : Route → Doing → ℕ → Doing
after_step r d place = option_map_or (after_done r d place) (instr_at r.code r.function place) d

-- the execution after the steps at these places
abbrev pub after_all : Route → Doing → List ℕ → Doing
after_all r d places = fold (after_step r) d places
