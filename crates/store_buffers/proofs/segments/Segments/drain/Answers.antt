use Rattle.std.proofs.Common.{◌∙◌, sym, ap, List, ℤ, slice_get}
use Rattle.store_buffers.proofs.Skips.{front_values, alone_front, older_first, drained_last, drained_older, nil_test, some_len}
use Rattle.store_buffers.specs.helpers.Lists.{nil_is}
use Rattle.store_buffers.proofs.segments.Segments.drain.Goals as goal

pub returns-then-is_empty-clause-value : goal.returns-then-is_empty-clause-value
returns-then-is_empty-clause-value c =
    let none = nil_is c.self.inside.older.items (sym (nil_test c.self.inside.older.items c.self.inside.older.len c.self.inside.older.ok.0)
    ∙ sym c.is_empty.ensures ∙ c.if-is_empty.true) in
    c.pop.ensures.first
    ∙ ap (λ (vs : List ℤ). slice_get vs 0) (sym (
    front_values c.self.inside.skipped c.self.inside.older.items c.self.inside.last c.args.self.now c.args.cell c.self.view_is c.self.invariant.0
    ∙ alone_front c.self.inside.older.items c.self.inside.last c.args.cell none))

pub returns-then-is_empty-clause-rest : goal.returns-then-is_empty-clause-rest
returns-then-is_empty-clause-rest c =
    let none = nil_is c.self.inside.older.items (sym (nil_test c.self.inside.older.items c.self.inside.older.len c.self.inside.older.ok.0)
    ∙ sym c.is_empty.ensures ∙ c.if-is_empty.true) in
    drained_last c.self.inside.skipped c.self.inside.older.items c.self.inside.last c.pop.new.self c.args.self.now c.args.cell c.self.view_is none
    c.requires c.pop.ensures.rest

pub returns-clause-value : goal.returns-clause-value
returns-clause-value c =
    let some = some_len c.self.inside.older.items (sym (nil_test c.self.inside.older.items c.self.inside.older.len c.self.inside.older.ok.0)
    ∙ sym c.is_empty.ensures ∙ c.if-is_empty.false) in
    c.pop_first-value.ensures.value
    ∙ ap (λ (vs : List ℤ). slice_get vs 0) (sym (
    front_values c.self.inside.skipped c.self.inside.older.items c.self.inside.last c.args.self.now c.args.cell c.self.view_is c.self.invariant.0
    ∙ older_first c.self.inside.older.items c.self.inside.last c.args.cell some c.self.invariant.0))

pub returns-clause-rest : goal.returns-clause-rest
returns-clause-rest c =
    let some = some_len c.self.inside.older.items (sym (nil_test c.self.inside.older.items c.self.inside.older.len c.self.inside.older.ok.0)
    ∙ sym c.is_empty.ensures ∙ c.if-is_empty.false) in
    drained_older c.self.inside.skipped c.skip_empty.new.skipped c.self.inside.older.items c.pop_first-value.new.segments.items
    c.skip_empty.new.segments.items c.self.inside.last c.args.self.now c.args.cell c.self.view_is c.self.invariant.0 some
    c.pop_first-value.ensures.rest c.skip_empty.ensures.same
