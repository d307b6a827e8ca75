-- What the cells of a mutex hold in a world: the value of the last write before a position.
use Rattle.std.specs.Prelude.{ℕ, ℤ, pos, ◌==◌, ◌&&◌, Bool, not, nat_lt, if◌then◌else◌, List, filter, map, is_some}
use Rattle.std.specs.List.{reduce}
use Rattle.std.specs.Option.{option_map_or}
use Rattle.std.specs.Ordering.{int_eq}
use Rattle.tc_code.specs.Code.{Code}
use Rattle.path_walk.specs.Paths.{Paths}
use Rattle.sym_terms.specs.Values.{value_of}
use Rattle.sym_terms.specs.declared.node.Node.{Node}
use Rattle.sym_exec.specs.Executed.{Symbolic}
use Rattle.sym_exec.specs.declared.symbolic.Access.{Access}
use Rattle.sym_exec.specs.tc_code.declared.cell.Cell.{Cell}
use Rattle.sym_exec.specs.tc_code.declared.cell.Cell.TheVariants.{Fixed, Element}
use Rattle.order_formula.specs.Worlds.{World}
use Rattle.order_events.specs.lawful_order.Cells.{value_at_start}
use Rattle.order_events.specs.lawful_order.Events.{Placed, place_of}
use Rattle.read_write.specs.Accesses.{all_accesses}
use Rattle.mutex_regions.specs.Variables.{spots_of}
use Rattle.mutex_regions.specs.declared.variables.Spot.{Spot}
use Rattle.mutex_regions.specs.declared.variables.Variable.{Variable}

module _ (code : Code) (paths : Paths) (symbolic : Symbolic) (nodes : List Node) (w : World) where
  -- the position of an access
  abbrev pub place : Placed Access → ℕ
  place a = place_of paths w a.thread a.it.step

  -- whether a cell is this one of a state
  abbrev pub is_to : Spot → Cell ℕ → Bool
  is_to s (Fixed c) = not s.variable.is_array && s.variable.first == c
  is_to s (Element f n i) =
      s.variable.is_array
      && (s.variable.first == f && int_eq (value_of nodes w.loads i) (pos s.index))

  -- whether an access writes to a cell of a state, and whether it comes before a position
  abbrev pub writes_to : Spot → Placed Access → Bool
  writes_to s a = is_some a.it.writes && is_to s a.it.cell

  abbrev pub is_write_before : ℕ → Spot → Placed Access → Bool
  is_write_before p s a = writes_to s a && nat_lt (place a) p

  -- the value that an access writes, and that a cell has at the start
  abbrev pub written : Placed Access → ℤ
  written a = option_map_or (value_of nodes w.loads) a.it.writes (pos 0)

  abbrev pub value_first : Spot → ℤ
  value_first s = if s.variable.is_array then pos 0 else value_at_start code (Fixed s.variable.first)

  -- the value of the last of some writes to a cell
  abbrev pub later : Placed Access → Placed Access → Placed Access
  later a b = if nat_lt (place a) (place b) then b else a

  abbrev pub value_last : (Placed Access → Bool) → Spot → ℤ
  value_last is s =
      option_map_or written (reduce later (filter is (all_accesses symbolic))) (value_first s)

  -- the state before a position
  abbrev pub state_before : List Variable → ℕ → List ℤ
  state_before vs p = map (λ s. value_last (is_write_before p s) s) (spots_of vs)
