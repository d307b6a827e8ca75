use Rattle.std.proofs.Common.{refl, sym, subst}
use Rattle.store_buffers.specs.Buffers.{no_buffer}
use Rattle.store_buffers.specs.Laws.{AreForms}
use Rattle.store_buffers.proofs.Forms.{no_forms}
use Rattle.store_buffers.proofs.sc.ScMemoryModel.forms.Goals as goal

pub returns : goal.returns
returns c = subst (AreForms no_buffer c.args._buffer.now) (sym c.new.ensures.items) (no_forms no_buffer c.args._buffer.now (λ form. refl))
