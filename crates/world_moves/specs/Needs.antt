-- What a world's events must satisfy so that their moves can be computed.
use Rattle.std.specs.Prelude.{◌≡◌, ◌<◌, ◌^◌, ◌+◌, ℕ, Bool, true, ◌&&◌, List, length, Some}
use Rattle.std.specs.Option.{IfSome}
use Rattle.path_walk.specs.declared.event.Event.{Event}
use Rattle.sym_terms.specs.declared.node.Node.{Node}
use Rattle.sym_exec.specs.Alone.{cell_by}
use Rattle.sym_exec.specs.tc_code.declared.cell.Cell.{Cell}
use Rattle.path_execution.specs.declared.execution.Execution.{Execution}
use Rattle.order_formula.specs.Worlds.{World}
use Rattle.order_cells.specs.Terms.{CellIsOf}
use Rattle.order_cells.specs.lawful_order.Events.{Placed}
use Rattle.order_cells.specs.lawful_order.Memory.{cell_of, is_store}
use Rattle.world_moves.specs.Moves.{event_here, last_place}

-- a cell's terms exist, and its number fits in 32 bits
pub record IsNumbered (nodes : List Node) (w : World) (c : Cell ℕ) : Type 0 where
  pub terms : CellIsOf (length nodes) c
  pub number : cell_by nodes w.loads c < 2 ^ 32

-- the next step's number fits in 64 bits, and the cell of a store in a buffer is numbered
pub record IsTellable (buffered : Bool) (x : Execution) (w : World) (thread : ℕ)
    (e : Event) : Type 0 where
  pub next : e.step + 1 < 2 ^ 64
  pub cell : (buffered && is_store e.kind) ≡ true
      → IfSome (cell_of x.symbolic thread e.step) (IsNumbered x.terms w)

-- each event before the failing one satisfies this
abbrev pub AreTellable : Bool → Execution → World → Type 0
AreTellable buffered x w =
    (p : ℕ) (e : ℕ × Placed Event) → p < last_place x.paths w → event_here x.paths w p ≡ Some e
    → IsTellable buffered x w e.1.thread e.1.it
