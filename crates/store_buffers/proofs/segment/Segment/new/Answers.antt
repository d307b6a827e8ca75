use Rattle.std.proofs.Common.{sym, subst}
use Rattle.std.proofs.lemmas.List.{nil_from_length}
use Rattle.store_buffers.specs.helpers.Segments.{IsTidy, tidy-empty}
use Rattle.store_buffers.proofs.ByCell.{Entries, segment_of}
use Rattle.store_buffers.proofs.segment.Segment.new.Goals as goal

pub invariant_of-result : goal.invariant_of-result
invariant_of-result c = (
  subst (λ (es : Entries). IsTidy (segment_of es)) (sym (nil_from_length c.new.result.entries c.new.ensures.len)) tidy-empty,
  c.new.ensures.ordered,
)
