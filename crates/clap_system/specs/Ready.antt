-- The facts about a system that its translation into clauses relies on.
use Rattle.std.specs.Prelude.{◌≡◌, ◌≤◌, ◌==◌, ◌∷◌, length, map}
use Rattle.std.specs.List.{All, Contains, IsDistinct}
use Rattle.tc_limits.specs.declared.limits.TheConstants.{EVENTS}
use Rattle.sym_exec.specs.Ints.{HasInt}
use Rattle.order_formula.specs.Formulas.{IsOf}
use Rattle.order_formula.specs.Orders.{ConjunctIsIn, IsAsked}
use Rattle.order_formula.specs.Reads.{Read}
use Rattle.order_formula.specs.declared.formula.Body.TheVariants as body
use Rattle.order_formula.specs.declared.formula.Conjunct.{Conjunct}
use Rattle.clap_system.specs.Systems.{System}

pub record IsReady (s : System) : Type 0 where
  -- the order has the paths' events, and the events, sleeps and questions of the formula
  pub events : s.order.events ≡ s.paths.events
  pub within : All (ConjunctIsIn s.order) s.formula
  pub asked : IsAsked s.order s.formula
  -- the events of a read and of its candidates are distinct
  pub differ : (c : Conjunct) (r : Read) → Contains s.formula c → c.body ≡ body.Read r
      → IsDistinct (λ e d. e == d) (r.event ∷ map (λ x. x.event) r.candidates)
  -- each term that the formula names exists, and constants are ints
  pub terms : IsOf (length s.nodes) s.formula
  pub ints : All HasInt s.nodes

-- facts about every system: the formula's terms and events exist, and events are within the limit
pub record IsSound (s : System) : Type 0 where
  pub terms : IsOf (length s.nodes) s.formula
  pub events : s.order.events ≤ EVENTS
  pub within : All (ConjunctIsIn s.order) s.formula
