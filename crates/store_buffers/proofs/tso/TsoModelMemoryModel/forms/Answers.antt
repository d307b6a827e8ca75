use Rattle.std.proofs.Common.{◌∷◌, [], ◌++◌, None, sym, subst, ap, ◌∙◌}
use Rattle.store_buffers.specs.Buffers.{fifo_buffer}
use Rattle.store_buffers.specs.Laws.{AreForms}
use Rattle.store_buffers.proofs.Forms.{empty_forms, queue_forms}
use Rattle.store_buffers.proofs.tso.TsoModelMemoryModel.forms.Goals as goal

pub returns-then-is_empty : goal.returns-then-is_empty
returns-then-is_empty c =
    subst (AreForms fifo_buffer c.args.buffer.now) (sym c.new-forms.ensures.items) (empty_forms _ (sym c.is_empty.ensures ∙ c.if-is_empty.true))

pub returns : goal.returns
returns c =
    subst (AreForms fifo_buffer c.args.buffer.now)
    (sym (c.in_ok-push.ensures.items ∙ ap (λ fs. fs ++ None ∷ []) c.new-forms.ensures.items))
    (queue_forms _ (sym c.is_empty.ensures ∙ c.if-is_empty.false))
