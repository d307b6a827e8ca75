use Rattle.std.proofs.Common.{refl}
use Rattle.store_buffers.specs.Buffers.{fifo_buffer, cell_buffer}
use Rattle.store_buffers.specs.memory_models.declared.model.Model.TheVariants.{Tso, Pso}
use Rattle.store_buffers.specs.Pending.{binds_all, binds_cells}
use Rattle.store_buffers.specs.helpers.Partial.{pso_laws}
use Rattle.store_buffers.specs.helpers.Total.{tso_laws}
use Rattle.run_models.specs.Models.{AllowsMore}
use Rattle.run_models.proofs.Simulation.{reproduces_under_more}
use Rattle.run_models.proofs.total_under_partial.Goals as goal

allows : AllowsMore fifo_buffer binds_all cell_buffer binds_cells
allows = record { binds = λ _ _ _. refl; buffers = λ _. refl }

pub returns : goal.returns
returns c = reproduces_under_more fifo_buffer cell_buffer Tso Pso binds_all binds_cells tso_laws pso_laws allows
