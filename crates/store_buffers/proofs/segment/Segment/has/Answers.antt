use Rattle.std.proofs.Common.{◌∙◌, subst}
use Rattle.store_buffers.specs.helpers.Segments.{IsTidy}
use Rattle.store_buffers.proofs.ByCell.{is_there, get_of_entries}
use Rattle.store_buffers.proofs.segment.Segment.has.Goals as goal

pub returns : goal.returns
returns c = c.contains_key.ensures ∙ is_there c.args.self.now c.args.cell _ (subst IsTidy c.self.view_is c.self.invariant.0)
    (get_of_entries _ _ c.args.cell c.self.view_is)
