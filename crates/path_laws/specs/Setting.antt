-- The setting of a theorem: a machine, and a log to reproduce on it.
use Rattle.std.specs.Prelude.{◌≡◌, true}
use Rattle.path_walk.specs.tc_base.Buffers.{BufferOps}
use Rattle.path_walk.specs.memory_models.declared.model.Model.{Model}
use Rattle.path_walk.specs.tc_code.Code.{Code}
use Rattle.path_walk.specs.tc_code.Lawful.{IsLawful}
use Rattle.run_follows.specs.store_buffers.Laws.{Laws}
use Rattle.run_follows.specs.store_buffers.Pending.{Binding}
use Rattle.run_follows.specs.Machine.{Machine}
use Rattle.path_walk.specs.run_log.Logs.{Log, is_log}

pub record Setting (B : Type 0) : Type 0 where
  pub machine : Machine B
  pub open machine use *
  pub log : Log
  pub log_is : is_log log ≡ true

-- the setting of a memory model, code and a log
abbrev pub setting_of : {B : Type 0} (ops : BufferOps B) (model : Model) (bound : Binding)
    (code : Code) (log : Log)
    → Laws ops model bound → IsLawful code → is_log log ≡ true → Setting B
setting_of ops model bound code log laws lawful is = record {
  machine =
      record { ops = ops; model = model; bound = bound; laws = laws; code = code; lawful = lawful };
  log = log;
  log_is = is;
}
