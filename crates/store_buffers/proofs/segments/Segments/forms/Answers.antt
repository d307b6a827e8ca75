use Rattle.std.proofs.lemmas.Result.{IfOk-weaker}
use Rattle.store_buffers.proofs.Forms.{forms_in_front}
use Rattle.store_buffers.proofs.segments.Segments.forms.Goals as goal

pub returns : goal.returns
returns c = IfOk-weaker c.forms.result _ _ (λ forms. forms_in_front c.args.self.now c.front.result.now forms.items c.front.ensures) c.forms.ensures
