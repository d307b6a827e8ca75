-- The states that the code's steps pass to each other.
use Rattle.std.specs.Prelude.{ℕ, List, Bool, true, ◌&&◌, nat_lt}
use Rattle.std.specs.List.{All, list_all}
use Rattle.int_ops.specs.Updates.{operands_of}
use Rattle.tc_code.specs.Expr.{Expr, names_slots}
use Rattle.tc_code.specs.declared.cell.Cell.{Cell}
use Rattle.tc_code.specs.declared.cell.Cell.TheVariants.{Fixed, Element}
use Rattle.tc_code.specs.declared.instr.Instr.{Instr}
use Rattle.tc_code.specs.declared.instr.Instr.TheVariants.{Set, Load, Store, Inside, Branch, Create, Assert, Nonzero, InRange, Modify}
use Rattle.sym_terms.specs.declared.node.Node.{Node}
use Rattle.sym_exec.specs.Executed.{Executed}
use Rattle.sym_exec.specs.Thread.{Doing, HandsOf}
use Rattle.sym_exec.specs.declared.thread.Thread.{Thread}

-- a thread of the code, with its nodes, as an execution
abbrev pub doing_of : Thread → List Node → Doing
doing_of t nodes = record {
  nodes = nodes;
  slots = t.slots.items;
  loads = t.loads;
  steps = t.steps;
  branches = t.branches;
  tests = t.tests.items;
  accesses = t.accesses.items;
  creates = t.creates.items;
}

-- all terms that threads hand to children are indexes into the nodes
abbrev pub HaveTerms : Executed → Type 0
HaveTerms x = All (λ c. All (HandsOf x.nodes) c.creates) x.symbolic.threads

-- whether all slots of a cell's index are less than n
abbrev pub cell_named : ℕ → Cell Expr → Bool
cell_named n (Fixed c) = true
cell_named n (Element first len i) = names_slots n i

-- whether all slots that an instruction names are less than n
abbrev pub names_within : ℕ → Instr → Bool
names_within n (Set k e) = nat_lt k n && names_slots n e
names_within n (Load k c) = nat_lt k n && cell_named n c
names_within n (Store c e) = cell_named n c && names_slots n e
names_within n (Inside len i) = names_slots n i
names_within n (Branch e to) = names_slots n e
names_within n (Create h f es) = list_all (names_slots n) es
names_within n (Assert e) = names_slots n e
names_within n (Nonzero e) = names_slots n e
names_within n (InRange e) = names_slots n e
names_within n (Modify k c u) =
    nat_lt k n && cell_named n c && list_all (names_slots n) (operands_of u)
names_within n _ = true
