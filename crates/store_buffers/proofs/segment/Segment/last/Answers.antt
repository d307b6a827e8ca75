use Rattle.std.proofs.Common.{◌∙◌, sym, ap, None}
use Rattle.std.specs.List.{last_or}
use Rattle.std.specs.Option.{option_copied}
use Rattle.store_buffers.proofs.ByCell.{entry_values}
use Rattle.store_buffers.proofs.segment.Segment.last.Goals as goal

pub returns-in-Some : goal.returns-in-Some
returns-in-Some c = c.last.ensures ∙ sym (ap (last_or None)
    (entry_values _ _ c.args.cell _ c.self.view_is (sym c.get.ensures.value ∙ ap option_copied c.in-Some.is)))

pub returns-in-None : goal.returns-in-None
returns-in-None c = sym (ap (last_or None) (entry_values _ _ c.args.cell _ c.self.view_is (sym c.get.ensures.value ∙ ap option_copied c.in-None.is)))
