use Rattle.std.proofs.Common.{◌∙◌, sym, ap}
use Rattle.std.specs.Option.{option_or}
use Rattle.store_buffers.specs.Buffers.{last_value}
use Rattle.store_buffers.proofs.Skips.{forwarded, some_or, none_or}
use Rattle.store_buffers.proofs.segments.Segments.forward.Goals as goal

pub returns-then-is_some : goal.returns-then-is_some
returns-then-is_some c =
    sym (some_or c.last-newest.result (last_value c.self.inside.older.items c.args.cell) (sym c.is_some.ensures ∙ c.if-is_some.true))
    ∙ ap (λ o. option_or o (last_value c.self.inside.older.items c.args.cell)) c.last-newest.ensures
    ∙ forwarded c.self.inside.skipped c.self.inside.older.items c.self.inside.last c.args.self.now c.args.cell c.self.view_is

pub returns : goal.returns
returns c =
    c.last_of.ensures
    ∙ sym (none_or c.last-newest.result (last_value c.self.inside.older.items c.args.cell) (sym c.is_some.ensures ∙ c.if-is_some.false))
    ∙ ap (λ o. option_or o (last_value c.self.inside.older.items c.args.cell)) c.last-newest.ensures
    ∙ forwarded c.self.inside.skipped c.self.inside.older.items c.self.inside.last c.args.self.now c.args.cell c.self.view_is
