use Rattle.std.proofs.Common.{◌∙◌, sym}
use Rattle.store_buffers.proofs.Skips.{barred_empty}
use Rattle.store_buffers.proofs.segments.Segments.bar.Goals as goal

pub returns-then-is_empty-clause-ok : goal.returns-then-is_empty-clause-ok
returns-then-is_empty-clause-ok c =
    barred_empty c.self.inside.skipped c.self.inside.older.items c.self.inside.last c.args.self.now c.self.view_is c.self.invariant.0
    (sym c.is_empty.ensures ∙ c.if-is_empty.true)
