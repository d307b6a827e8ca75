use Rattle.std.proofs.Common.{◌∙◌, ap, sym}
use Rattle.store_buffers.specs.Buffers.{has_no_store}
use Rattle.store_buffers.proofs.ByCell.{no_entry-none, tested}
use Rattle.store_buffers.proofs.segment.Segment.is_empty.Goals as goal

pub returns : goal.returns
returns c = tested c.is_empty.result _ c.is_empty.ensures ∙ sym (no_entry-none c.self.inside.by_cell.entries c.self.invariant.0)
    ∙ ap has_no_store c.self.view_is
