-- The value that a load takes: that of the last write to its cell before it, in the order or on its
-- own path, or the cell's initial value if there is none.
use Rattle.std.specs.Prelude.{◌≡◌, ◌⊎◌, ℕ, ◌<◌, List, IsSome, Some, slice_get, true}
use Rattle.std.specs.List.{Contains}
use Rattle.sym_exec.specs.tc_code.Code.{Code}
use Rattle.sym_exec.specs.path_walk.Paths.{Paths}
use Rattle.sym_exec.specs.path_walk.declared.event.Event.{Event}
use Rattle.order_formula.specs.sym_terms.declared.node.Node.{Node}
use Rattle.sym_exec.specs.Alone.{Asked, asked_in}
use Rattle.sym_exec.specs.Executed.{Course, Symbolic}
use Rattle.sym_exec.specs.declared.symbolic.Access.{Access}
use Rattle.order_formula.specs.Worlds.{World}
use Rattle.lawful_order.specs.Cells.{is_same_cell, value_at_start}
use Rattle.lawful_order.specs.Events.{HasEvent, IsBefore}

abbrev pub HasAccess : Symbolic → ℕ → Access → Type 0
HasAccess symbolic t a =
    (c : Course) × (slice_get symbolic.threads t ≡ Some c) × Contains c.accesses a

module _ (code : Code) (paths : Paths) (symbolic : Symbolic) (nodes : List Node) (w : World) where
  -- the values that an access takes and writes
  abbrev pub asks : Access → Asked
  asks a = asked_in nodes w.loads a

  -- a sees b: b writes to the same cell, and comes before a in the order or on a's path
  pub record Sees (t : ℕ) (a : Access) (u : ℕ) (b : Access) : Type 0 where
    pub there : HasAccess symbolic u b
    pub writes : IsSome (asks b).writes
    pub cell : is_same_cell nodes w b.cell a.cell ≡ true
    pub before : IsBefore paths w u b.step t a.step ⊎ ((u ≡ t) × (b.step < a.step))

  -- a takes the value of b, the last write that it sees
  pub record TakesFrom (t : ℕ) (a : Access) (u : ℕ) (b : Access) : Type 0 where
    pub sees : Sees t a u b
    pub last : (v : ℕ) (c : Access) → Sees t a v c
        → ((v ≡ u) × (c ≡ b)) ⊎ IsBefore paths w v c.step u b.step
    pub takes : (asks a).takes ≡ (asks b).writes

  -- a sees no write, and takes its cell's initial value
  pub record TakesFirst (t : ℕ) (a : Access) : Type 0 where
    pub sees : (u : ℕ) (b : Access) → Sees t a u b → ⊥
    pub takes : (asks a).takes ≡ Some (value_at_start code a.cell)

  -- each load of thread t at `line` takes the last write that it sees, or the initial value
  pub record ReadRule (t line : ℕ) : Type 0 where
    pub loads : (a : Access) (x : Event) → HasAccess symbolic t a → IsSome a.takes
        → HasEvent paths t x → x.step ≡ a.step → x.line ≡ line
        → ((u : ℕ) × (b : Access) × TakesFrom t a u b) ⊎ TakesFirst t a
