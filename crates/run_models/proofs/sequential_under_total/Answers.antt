use Rattle.std.proofs.Common.{refl}
use Rattle.store_buffers.specs.Buffers.{no_buffer, fifo_buffer}
use Rattle.store_buffers.specs.memory_models.declared.model.Model.TheVariants.{Sc, Tso}
use Rattle.store_buffers.specs.Pending.{binds_all}
use Rattle.store_buffers.specs.helpers.Sequential.{sc_laws}
use Rattle.store_buffers.specs.helpers.Total.{tso_laws}
use Rattle.run_models.specs.Models.{AllowsMore}
use Rattle.run_models.proofs.Simulation.{reproduces_under_more}
use Rattle.run_models.proofs.sequential_under_total.Goals as goal

allows : AllowsMore no_buffer binds_all fifo_buffer binds_all
allows = record { binds = λ _ _ e. e; buffers = λ _. refl }

pub returns : goal.returns
returns c = reproduces_under_more no_buffer fifo_buffer Sc Tso binds_all binds_all sc_laws tso_laws allows
