-- The worlds that have a schedule.
use Rattle.std.specs.Prelude.{◌≡◌, ◌≤◌, true, List, ◌++◌, length, IsTrue}
use Rattle.std.specs.List.{All}
use Rattle.store_buffers.specs.tc_base.Buffers.{BufferOps}
use Rattle.tc_code.specs.run_log.Logs.{Log, is_log}
use Rattle.schedule_file.specs.tc_limits.declared.limits.TheConstants.{THREADS, STEPS, EVENTS}
use Rattle.store_buffers.specs.memory_models.declared.model.Model.{Model}
use Rattle.tc_code.specs.Code.{Code}
use Rattle.tc_code.specs.Lawful.{IsLawful}
use Rattle.store_buffers.specs.Laws.{Laws}
use Rattle.store_buffers.specs.Pending.{Binding}
use Rattle.schedule_file.specs.Schedules.{is_name}
use Rattle.path_walk.specs.Paths.{Paths, paths_of}
use Rattle.world_moves.specs.path_laws.Setting.{setting_of}
use Rattle.sym_terms.specs.declared.node.Node.{Node}
use Rattle.path_execution.specs.declared.execution.Execution.{Execution}
use Rattle.world_moves.specs.sym_laws.Valued.{found}
use Rattle.order_formula.specs.Worlds.{World}
use Rattle.lawful_terms.specs.lawful_order.Events.{all_events}
use Rattle.world_moves.specs.world_plan.Going.{IsLawfulWorld}

-- paths that fit into a schedule
pub record HaveRoom (paths : Paths) : Type 0 where
  pub threads : length paths.threads ≤ THREADS
  pub steps : All (λ q. length q.places ≤ STEPS) paths.threads
  pub names : All (λ q. IsTrue (is_name q.name)) paths.threads
  pub events : length (all_events paths) ≤ EVENTS

-- the paths of a log, executed over terms, with more terms added later
abbrev pub executed_with : Code → Log → (first more : List Node) → Execution
executed_with code log first more = record {
  paths = paths_of code log;
  symbolic = (found code log first).symbolic;
  terms = (found code log first).nodes ++ more;
}

-- a lawful world of the executed paths of some log
pub record IsDecodable {B : Type 0} (ops : BufferOps B) (model : Model) (bound : Binding)
    (code : Code) (x : Execution) (w : World)
    : Type 0 where
  pub laws : Laws ops model bound
  pub code_is : IsLawful code
  pub log : Log
  pub log_is : is_log log ≡ true
  pub first : List Node
  pub more : List Node
  pub is : x ≡ executed_with code log first more
  pub lawful : IsLawfulWorld (setting_of ops model bound code log laws code_is log_is) first w
