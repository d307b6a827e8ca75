-- What runs: lawful code under a memory model that obeys its laws.
use Rattle.run_history.specs.tc_base.Buffers.{BufferOps}
use Rattle.run_history.specs.memory_models.declared.model.Model.{Model}
use Rattle.run_history.specs.tc_code.Code.{Code}
use Rattle.run_history.specs.tc_code.Lawful.{IsLawful}
use Rattle.run_history.specs.store_buffers.Laws.{Laws}
use Rattle.run_history.specs.store_buffers.Pending.{Binding}

pub record Machine (B : Type 0) : Type 0 where
  pub ops : BufferOps B
  pub model : Model
  pub bound : Binding
  pub laws : Laws ops model bound
  pub code : Code
  pub lawful : IsLawful code
