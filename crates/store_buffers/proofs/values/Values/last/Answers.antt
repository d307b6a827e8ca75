use Rattle.std.proofs.Common.{◌∙◌, ap, None}
use Rattle.std.specs.List.{last_or}
use Rattle.store_buffers.proofs.ByCell.{last_of_back}
use Rattle.store_buffers.proofs.values.Values.last.Goals as goal

pub returns : goal.returns
returns c =
    c.copied.ensures
    ∙ last_of_back c.self.inside.values.items c.self.inside.values.len c.back.result c.self.inside.values.ok.0 c.back.ensures.variant c.back.ensures.lookup
    ∙ ap (last_or None) c.self.view_is
