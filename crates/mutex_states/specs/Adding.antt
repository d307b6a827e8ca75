-- What paths and a layout must be like, so that the states of mutexes can be added to a draft.
use Rattle.std.specs.Prelude.{◌≡◌, ℕ, ◌<◌, List}
use Rattle.std.specs.List.{All}
use Rattle.order_cells.specs.sym_exec.path_walk.tc_code.Code.{Code}
use Rattle.order_cells.specs.sym_exec.path_walk.tc_code.Lawful.{IsLawful}
use Rattle.order_cells.specs.sym_exec.path_walk.Paths.{ArePaths, Paths}
use Rattle.circuit_sizes.specs.sym_terms.Terms.{AreTerms}
use Rattle.circuit_sizes.specs.sym_terms.declared.node.Node.{Node}
use Rattle.order_cells.specs.sym_exec.Executed.{Symbolic}
use Rattle.order_cells.specs.sym_exec.Ints.{AreInts}
use Rattle.mutex_regions.specs.order_events.order_formula.declared.formula.Conjunct.{Conjunct}
use Rattle.mutex_regions.specs.order_events.order_formula.Worlds.{IsWorld, World, position}
use Rattle.mutex_regions.specs.order_events.lawful_order.Lawful.{IsWorldOf}
use Rattle.mutex_regions.specs.order_events.lawful_order.Whole.{IsExecutedBy}
use Rattle.cnf_core.specs.Clauses.{Valuation}
use Rattle.bit_order.specs.Layouts.{Layout}
use Rattle.bit_order.specs.Readings.{world_of}
use Rattle.circuit_sizes.specs.bit_terms.Laws.{IsIntNode}
use Rattle.mutex_states.specs.Going.{TestsHold}
use Rattle.mutex_states.specs.InOrder.{RulesFollow}
use Rattle.mutex_states.specs.Truths.{holds_in}

-- the paths of a program, and a formula whose conjuncts state its rules
pub record StatesRules (code : Code) (paths : Paths) (symbolic : Symbolic) (nodes : List Node)
    (formula : List Conjunct) : Type 0 where
  pub lawful : IsLawful code
  pub are : ArePaths code paths
  pub executed : IsExecutedBy paths symbolic
  pub terms : AreTerms nodes
  pub constants : All IsIntNode nodes
  pub rules : (w : World) (m : ℕ) → IsWorld w → IsWorldOf paths symbolic w
      → RulesFollow code paths symbolic nodes formula w m
  pub tests : (w : World)
      → TestsHold code paths symbolic nodes formula w (holds_in nodes formula w)

-- a world of the paths; constants and the values of loads are ints, and positions fit in 8 bits
pub record IsOfPaths (paths : Paths) (symbolic : Symbolic) (nodes : List Node)
    (w : World) : Type 0 where
  pub world : IsWorld w
  pub of : IsWorldOf paths symbolic w
  pub ints : AreInts nodes w.loads
  pub small : (event : ℕ) → position w event < 256

-- any values of a layout's variables have a world of the paths
pub record HasWorlds (paths : Paths) (symbolic : Symbolic) (nodes : List Node)
    (y : Layout) : Type 0 where
  pub loads : y.loads ≡ symbolic.loads
  pub each : (v : Valuation) → IsOfPaths paths symbolic nodes (world_of y v)
