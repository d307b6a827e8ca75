-- Each memory model obeys its laws.
use Rattle.run_log.specs.memory_models.declared.model.Model.{Model}
use Rattle.run_log.specs.memory_models.declared.model.Model.TheVariants.{Sc, Tso, Pso}
use Rattle.store_buffers.specs.Buffers.{buffer_of}
use Rattle.store_buffers.specs.Laws.{Laws}
use Rattle.store_buffers.specs.helpers.Partial.{pso_laws}
use Rattle.store_buffers.specs.helpers.Sequential.{sc_laws}
use Rattle.store_buffers.specs.helpers.Total.{tso_laws}
use Rattle.clap_solve.specs.Clauses.{bound_of}

pub model_laws : (m : Model) → Laws (buffer_of m) m (bound_of m)
model_laws Sc = sc_laws
model_laws Tso = tso_laws
model_laws Pso = pso_laws
