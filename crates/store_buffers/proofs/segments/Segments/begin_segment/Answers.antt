use Rattle.std.proofs.Common.{◌≡◌, ◌+◌, ◌∷◌, ◌++◌, [], ◌∙◌, sym, ap, subst, length, length-append, List, false, arith}
use Rattle.store_buffers.specs.Buffers.{Segment}
use Rattle.store_buffers.specs.helpers.Seen.{begins_empty}
use Rattle.store_buffers.proofs.Skips.{begins_after, segment_count}
use Rattle.store_buffers.proofs.segments.Segments.begin_segment.Goals as goal

pub invariant_of-self-2 : goal.invariant_of-self-2
invariant_of-self-2 c =
    let items : c.push_back_reserved.new.self.items ≡ c.self.inside.older.items ++ c.self.inside.last ∷ [] =
    c.push_back_reserved.ensures.items ∙ ap (λ (ss : List Segment). ss ++ c.replace.result ∷ []) c.reserve.ensures.items
    ∙ ap (λ (s : Segment). c.self.inside.older.items ++ s ∷ []) c.replace.ensures.value in
    let count = segment_count c.self.inside.skipped c.self.inside.older.items c.self.inside.last c.args.self.now c.self.view_is in
    let longer : length c.push_back_reserved.new.self.items ≡ length c.self.inside.older.items + 1 = ap length items
    ∙ length-append c.self.inside.older.items (c.self.inside.last ∷ []) in (
      subst (λ (ss : List Segment). begins_empty ss ≡ false) (sym items)
          (begins_after c.self.inside.skipped c.self.inside.older.items c.self.inside.last c.args.self.now c.self.view_is c.self.invariant.0 c.requires.some),
      omega (arith, count, longer, c.requires.room),
    )
