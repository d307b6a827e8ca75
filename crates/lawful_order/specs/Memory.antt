-- Which events of a thread a memory model keeps in program order.
use Rattle.std.specs.Prelude.{◌≡◌, ◌≢◌, ℕ, ◌<◌, ◌==◌, Bool, true, false, not, ◌&&◌, ◌||◌, Option}
use Rattle.std.specs.List.{find}
use Rattle.std.specs.Option.{option_eq}
use Rattle.std.specs.Prelude.{List, option_map, option_and_then, slice_get}
use Rattle.sym_exec.specs.path_walk.Paths.{Paths}
use Rattle.sym_exec.specs.path_walk.declared.event.Event.{Event}
use Rattle.sym_exec.specs.path_walk.declared.event.EventKind.{EventKind}
use Rattle.sym_exec.specs.path_walk.declared.event.EventKind.TheVariants as kind
use Rattle.store_buffers.specs.Pending.{Binding}
use Rattle.order_formula.specs.sym_terms.declared.node.Node.{Node}
use Rattle.sym_exec.specs.Executed.{Symbolic}
use Rattle.sym_exec.specs.tc_code.declared.cell.Cell.{Cell}
use Rattle.order_formula.specs.Worlds.{World}
use Rattle.lawful_order.specs.Cells.{is_same_cell}
use Rattle.lawful_order.specs.Events.{HasEvent, IsBefore}

-- the cell that a thread's step accesses, if any
abbrev pub cell_of : Symbolic → (thread step : ℕ) → Option (Cell ℕ)
cell_of symbolic t k =
    option_map (λ a. a.cell)
    (option_and_then (λ c. find (λ a. a.step == k) c.accesses) (slice_get symbolic.threads t))

-- whether an event is a plain store; an exchange isn't, since it drains the buffer first
abbrev pub is_store : EventKind → Bool
is_store kind.Store = true
is_store _ = false

-- whether a thread may do this while its stores are pending; other events need them in memory
abbrev pub may_overtake : EventKind → Bool
may_overtake kind.Load = true
may_overtake kind.Store = true
may_overtake kind.Fail = true
may_overtake _ = false

module _ (buffered : Bool) (bound : Binding) (paths : Paths) (symbolic : Symbolic)
    (nodes : List Node) (w : World) where
  -- whether an event is a store that waits in a buffer, and so has the position of its drain
  abbrev pub is_pending : EventKind → Bool
  is_pending k = buffered && is_store k

  abbrev pub same_cell : ℕ → Event → Event → Bool
  same_cell t x y =
      option_eq (is_same_cell nodes w) (cell_of symbolic t x.step) (cell_of symbolic t y.step)

  -- whether x stays before y: x isn't pending, y needs an empty buffer, or the model binds the two
  abbrev pub is_kept : ℕ → Event → Event → Bool
  is_kept t x y =
      not (is_pending x.kind)
      || (not (may_overtake y.kind)
      || is_store y.kind && bound (same_cell t x y) (not (x.bars == y.bars)))

  pub record OwnRule (t : ℕ) : Type 0 where
    pub own : (x y : Event) → HasEvent paths t x → HasEvent paths t y → x.step < y.step
        → is_kept t x y ≡ true
        → IsBefore paths w t x.step t y.step
    -- every event except pending stores comes before the failing event
    pub last : (u : ℕ) (x f : Event) → HasEvent paths t x → HasEvent paths u f → f.kind ≡ kind.Fail
        → x.kind ≢ kind.Fail
        → is_pending x.kind ≡ false → IsBefore paths w t x.step u f.step
