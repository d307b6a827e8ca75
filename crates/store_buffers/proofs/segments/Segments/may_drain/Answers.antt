use Rattle.std.proofs.Common.{◌∙◌, sym, ap, not, List, ℤ}
use Rattle.list_laws.specs.Lists.{is_nil}
use Rattle.store_buffers.proofs.segments.Segments.may_drain.Goals as goal

pub returns : goal.returns
returns c = c.has.ensures ∙ ap (λ (vs : List ℤ). not (is_nil vs)) (sym (c.front.ensures c.args.cell))
