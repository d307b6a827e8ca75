use Rattle.std.proofs.Common.{Err, ap, ◌∙◌}
use Rattle.command_frame.specs.helpers.Failures.{plain_keep}
use Rattle.command_frame.proofs.KeptAll.{next_failed, next_kept, next_none}
use Rattle.command_frame.proofs.keeping.keep_all.Goals as goal

pub returns-in-Err-Failed-clause-unkept : goal.returns-in-Err-Failed-clause-unkept
returns-in-Err-Failed-clause-unkept g c =
    let tells = g.H.Shelf.tells in
    next_failed plain_keep c.args.keeps.now c.loop-keep.keep-index _ c.loop-keep-test.true (tells c.args.shelf.now) (tells c.loop-keep.shelf)
    (tells c.keep.new.self) c.loop-keep.invariant (c.keep.ensures.failed (c.in-Err-Failed.is ∙ ap Err c.in-Err-Failed.field-0-is))

pub returns-in-Err-Memory-clause-unkept : goal.returns-in-Err-Memory-clause-unkept
returns-in-Err-Memory-clause-unkept g c =
    let tells = g.H.Shelf.tells in
    next_none plain_keep c.args.keeps.now c.loop-keep.keep-index (tells c.args.shelf.now) (tells c.loop-keep.shelf)
    (tells c.keep.new.self) c.loop-keep.invariant (c.keep.ensures.memory (c.in-Err-Memory.is ∙ ap Err c.in-Err-Memory.field-0-is))

pub loop-keep-preserved : goal.loop-keep-preserved
loop-keep-preserved g c =
    let tells = g.H.Shelf.tells in
    next_kept plain_keep c.args.keeps.now c.loop-keep.keep-index _ c.loop-keep-test.true (tells c.args.shelf.now) (tells c.loop-keep.shelf)
    (tells c.keep.new.self) c.loop-keep.invariant c.in-Ok.ensures.ok
