use Rattle.std.proofs.Common.{◌∙◌, ◌<◌, subst, refl}
use Rattle.store_buffers.proofs.Skips.{front_values, older_front, alone_front, none_by_variant}
use Rattle.store_buffers.proofs.segments.Segments.front.Goals as goal

pub returns-in-Some : goal.returns-in-Some
returns-in-Some c = λ d.
    front_values c.self.inside.skipped c.self.inside.older.items c.self.inside.last c.args.self.now d c.self.view_is c.self.invariant.0
    ∙ older_front c.self.inside.older.items c.self.inside.last c.in-Some.segment.now d
    (subst (λ n. 0 < n) c.self.inside.older.ok.0 (c.in-Some.ensures.variant.0 refl)) c.in-Some.ensures.lookup c.self.invariant.0

pub returns-in-None : goal.returns-in-None
returns-in-None c = λ d.
    front_values c.self.inside.skipped c.self.inside.older.items c.self.inside.last c.args.self.now d c.self.view_is c.self.invariant.0
    ∙ alone_front c.self.inside.older.items c.self.inside.last d
    (none_by_variant c.self.inside.older.items c.self.inside.older.len c.self.inside.older.ok.0 c.in-None.ensures.variant.1)
