-- How worlds and the models of an order's formula correspond.
use Rattle.std.specs.Prelude.{◌≡◌, ℕ, ◌<◌, pos, None, Some, get_or, length, IsTrue}
use Rattle.std.specs.List.{All, Contains, list_any}
use Rattle.bit_arith.specs.int_ops.Arith.{IsInt}
use Rattle.cnf_core.specs.Clauses.{Valuation, literal_true}
use Rattle.bit_gates.specs.Laws.{IsModel, IsOf}
use Rattle.bit_arith.specs.Laws.{int_value}
use Rattle.order_formula.specs.Orders.{same_pair, pair_of}
use Rattle.order_formula.specs.Worlds.{World, IsWorld, is_before, is_ended}
use Rattle.bit_order.specs.Layouts.{Layout, load_word, ends_literal}
use Rattle.bit_order.specs.Comparators.{before_literal, ordered}
use Rattle.bit_order.specs.Readings.{world_of}

-- a world that fits a layout: its events, loads and sleeps, with enders among the choices
pub record IsWorldFor (y : Layout) (w : World) : Type 0 where
  pub world : IsWorld w
  pub positions : length w.positions ≡ y.order.events
  pub small : All (λ p. p < 256) w.positions
  pub loads : length w.loads ≡ y.loads
  pub ints : All IsInt w.loads
  pub enders : length w.enders ≡ y.order.sleeps
  pub chosen : (sleep by : ℕ) → get_or w.enders sleep None ≡ Some by
      → Contains y.order.choices (record { sleep = sleep; by = by })

-- two worlds order the events alike and have the same loads and enders
pub record SaysSame (y : Layout) (w x : World) : Type 0 where
  pub before : (first second : ℕ) → first < y.order.events → second < y.order.events
      → is_before w first second ≡ is_before x first second
  pub loads : w.loads ≡ x.loads
  pub enders : w.enders ≡ x.enders

-- the order asks which of two events comes first
abbrev pub PairIsAsked : Layout → (first second : ℕ) → Type 0
PairIsAsked y first second = IsTrue (list_any (same_pair (pair_of first second)) y.order.pairs)

-- an order's literals belong to its formula, and in each model they agree with the model's world
pub record LiteralsMean (y : Layout) : Type 0 where
  -- an event comes before another, if the order asks about the two
  pub before_there : (first second : ℕ) → IsOf (ordered y).vars (before_literal y first second)
  pub before : (v : Valuation) → IsModel v (ordered y) → (first second : ℕ)
      → PairIsAsked y first second
      → literal_true v (before_literal y first second) ≡ is_before (world_of y v) first second
  -- an event ends a sleep, whether or not the order asks about it
  pub ends_there : (sleep by : ℕ) → IsOf (ordered y).vars (ends_literal y sleep by)
  pub ends : (v : Valuation) → IsModel v (ordered y) → (sleep by : ℕ)
      → literal_true v (ends_literal y sleep by) ≡ is_ended (world_of y v) sleep by
  -- a load takes a value of 32 bits
  pub load_there : (load : ℕ) → load < y.loads → All (IsOf (ordered y).vars) (load_word y load)
  pub load_wide : (load : ℕ) → length (load_word y load) ≡ 32
  pub load : (v : Valuation) (load : ℕ) → load < y.loads
      → int_value v (load_word y load) ≡ get_or (world_of y v).loads load (pos 0)
