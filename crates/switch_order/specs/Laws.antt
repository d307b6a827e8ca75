-- What levels mean.
use Rattle.std.specs.Prelude.{◌≡◌, ◌≢◌, ℕ, ◌<◌, ◌≤◌, List, length, Option, Some}
use Rattle.cnf_core.specs.Clauses.{Formula, Valuation}
use Rattle.cnf_core.specs.Gates.{Agree, IsOver}
use Rattle.bit_gates.specs.Laws.{IsModel}
use Rattle.order_switches.specs.order_formula.Orders.{IsOrder}
use Rattle.order_switches.specs.Switches.{switches}
use Rattle.bit_order.specs.Comparators.{ordered}
use Rattle.bit_order.specs.Laws.{PairIsAsked}
use Rattle.bit_order.specs.Layouts.{Layout}
use Rattle.bit_order.specs.Readings.{world_of}
use Rattle.switch_order.specs.Levels.{with_levels}

-- a formula over an order that asks about all pairs of events, their threads, and the failing event
pub record IsReady (y : Layout) (threads : List ℕ) (failing : Option ℕ) (f : Formula) : Type 0 where
  pub order : IsOrder y.order
  pub events : y.order.events ≤ 256
  pub every : length threads ≡ y.order.events
  pub last : (event : ℕ) → failing ≡ Some event → event < y.order.events
  pub asked : (e g : ℕ) → e < y.order.events → g < y.order.events → e ≢ g → PairIsAsked y e g
  pub more : (ordered y).vars ≤ f.vars
  pub before : (w : Valuation) → IsModel w f → IsModel w (ordered y)

-- the models of a formula with levels are its models whose worlds have at most `most` switches
pub record LevelsMean (y : Layout) (threads : List ℕ) (failing : Option ℕ) (most : ℕ)
    (f : Formula) : Type 0 where
  pub before : (w : Valuation) → IsModel w (with_levels y threads failing most f) → IsModel w f
  pub few : (w : Valuation) → IsModel w (with_levels y threads failing most f)
      → switches threads failing (world_of y w) ≤ most
  pub extends : (v : Valuation) → IsOver f → IsModel v f
      → switches threads failing (world_of y v) ≤ most
      → (w : Valuation) × IsModel w (with_levels y threads failing most f) × Agree f.vars v w
