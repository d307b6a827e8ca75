-- Context switches in a list of moves.
use Rattle.std.specs.Prelude.{ℕ, List, map}
use Rattle.std.specs.List.{filter_map}
use Rattle.plan_runs.specs.tc_base.Buffers.{BufferOps}
use Rattle.plan_runs.specs.tc_base.Names.{Name}
use Rattle.plan_runs.specs.tc_base.declared.moves.Move.{Move}
use Rattle.plan_runs.specs.tc_code.Code.{Code}
use Rattle.plan_runs.specs.run_history.History.{history, same}
use Rattle.plan_runs.specs.world_plan.Sights.{Sight, sight_of}
use Rattle.order_switches.specs.Switches.{changes}

module _ {B : Type 0} (ops : BufferOps B) (code : Code) where
  -- the threads of the moves by which events take place, in order; for a buffered store, its drain
  abbrev pub visible_threads : List Move → List Name
  visible_threads moves =
      map (λ (s : Sight). s.thread) (filter_map (sight_of ops.buffered) (history ops code moves))

  -- the number of neighbouring visible moves that are of different threads
  abbrev pub switches : List Move → ℕ
  switches moves = changes same (visible_threads moves)
