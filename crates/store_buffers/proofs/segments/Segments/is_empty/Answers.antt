use Rattle.std.proofs.Common.{◌∙◌, ◌&&◌, sym, ap}
use Rattle.store_buffers.specs.Buffers.{has_no_store}
use Rattle.store_buffers.proofs.Skips.{all_empty, nil_test}
use Rattle.store_buffers.proofs.segments.Segments.is_empty.Goals as goal

pub returns-then-is_empty : goal.returns-then-is_empty
returns-then-is_empty c =
    c.is_empty-then-is_empty.ensures
    ∙ ap (λ b. b && has_no_store c.self.inside.last) (sym c.if-is_empty.true ∙ c.is_empty.ensures
    ∙ nil_test c.self.inside.older.items c.self.inside.older.len c.self.inside.older.ok.0)
    ∙ sym (all_empty c.self.inside.skipped c.self.inside.older.items c.self.inside.last c.args.self.now c.self.view_is c.self.invariant.0)
