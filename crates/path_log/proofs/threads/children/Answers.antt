use Rattle.std.proofs.lemmas.Result.{err_from_is_err_and}
use Rattle.path_log.specs.Texts.{is_within}
use Rattle.path_log.specs.Fields.{◌such◌, byte, times}
use Rattle.path_log.specs.helpers.Reading.{place}
use Rattle.path_log.proofs.Loops.{times_on, times_fails, times_done, within}
use Rattle.path_log.proofs.threads.children.Goals as goal

pub returns-in_err-child : goal.returns-in_err-child
returns-in_err-child c =
    let p = err_from_is_err_and c.from_residual.result c.from_residual.ensures.1 in
    rw (p.1, p.2) (times_fails c.in_err-child.field-0.0 (byte such is_within 1 255) c.loop.name c.args.depth c.loop.counter (place c.loop.rest)
    (times (byte such is_within 1 255) c.args.depth (place c.args.cursor)) c.loop-test.true c.in_err-child.ensures c.loop.invariant)

pub child-requires : goal.child-requires
child-requires c =
    let bounds = within 1 255 byte (place c.loop.rest) (c.in_ok-child.child, place c.in_ok-child.next) c.in_ok-child.ensures in
    rw c.from.ensures bounds.0

pub loop-preserved : goal.loop-preserved
loop-preserved c =
    rw (c.in_ok-name.ensures, c.from.ensures) (times_on (byte such is_within 1 255) c.loop.name c.args.depth c.loop.counter (place c.loop.rest)
    c.in_ok-child.child
    (place c.in_ok-child.next) (times (byte such is_within 1 255) c.args.depth (place c.args.cursor)) c.loop-test.true c.in_ok-child.ensures c.loop.invariant)

pub returns : goal.returns
returns c = times_done (byte such is_within 1 255) c.loop.name c.args.depth c.loop.counter (place c.loop.rest)
    (times (byte such is_within 1 255) c.args.depth (place c.args.cursor)) c.loop-test.false c.loop.invariant
