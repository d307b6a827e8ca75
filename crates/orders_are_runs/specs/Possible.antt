-- When a formula says that a log is possible.
use Rattle.std.specs.Prelude.{◌≡◌, Bool, false, true}
use Rattle.clap_system.specs.run_log.Logs.{Log}
use Rattle.clap_system.specs.tc_code.Code.{Code}
use Rattle.clap_system.specs.store_buffers.Pending.{Binding}
use Rattle.clap_system.specs.path_walk.Paths.{paths_of}
use Rattle.clap_system.specs.order_formula.Truth.{holds_at}
use Rattle.clap_system.specs.order_formula.Worlds.{World, IsWorld}
use Rattle.lawful_terms.specs.lawful_order.Lawful.{IsWorldOf}
use Rattle.clap_system.specs.Systems.{system_of}

-- the log's paths aren't dead, and its formula is true in some world of these paths
pub record IsPossible (buffered : Bool) (bound : Binding) (code : Code) (log : Log) : Type 0 where
  pub lives : (paths_of code log).dead ≡ false
  pub world : World
  pub is : IsWorld world
  pub of : IsWorldOf (paths_of code log) (system_of buffered bound code log).symbolic world
  pub holds : holds_at (system_of buffered bound code log).nodes world
      (system_of buffered bound code log).formula ≡ true
