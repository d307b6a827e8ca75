-- The values of cells at the start, and the events that begin regions.
use Rattle.std.specs.Prelude.{ℕ, List, ℤ, pos, if◌then◌else◌}
use Rattle.tc_code.specs.Code.{Code}
use Rattle.path_walk.specs.declared.event.Event.{Event}
use Rattle.path_walk.specs.declared.event.Region.{Region}
use Rattle.sym_exec.specs.tc_code.declared.cell.Cell.TheVariants.{Fixed}
use Rattle.order_events.specs.lawful_order.Cells.{value_at_start}
use Rattle.order_events.specs.lawful_order.Events.{Placed}
use Rattle.order_events.specs.Parts.{number_in}
use Rattle.bit_terms.specs.Terms.{constant_word}
use Rattle.mutex_regions.specs.declared.variables.Spot.{Spot}

abbrev pub start_value : Code → Spot → ℤ
start_value code s =
    if s.variable.is_array then pos 0 else value_at_start code (Fixed s.variable.first)

abbrev pub start_word : Code → Spot → List ℤ
start_word code s = constant_word (start_value code s)

abbrev pub begin_in : List (Placed Event) → Placed Region → ℕ
begin_in events r = number_in events r.thread r.it.«from»
