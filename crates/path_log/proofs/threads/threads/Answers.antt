use Rattle.std.proofs.Common.{◌∙◌, ap, None}
use Rattle.std.proofs.lemmas.Result.{err_from_is_err_and}
use Rattle.path_log.specs.Fields as fields
use Rattle.path_log.specs.helpers.Reading.{place, last_name}
use Rattle.path_log.proofs.Loops.{threads_on, threads_fail, threads_done}
use Rattle.path_log.proofs.threads.threads.Goals as goal

pub returns-in_err-path : goal.returns-in_err-path
returns-in_err-path c =
    let p = err_from_is_err_and c.from_residual.result c.from_residual.ensures.1 in
    let last = c.last_name.ensures ∙ ap last_name c.as_slice.ensures.value in
    rw (p.1, p.2) (threads_fail c.args.as_runs c.loop.threads.items c.args.count c.loop.counter (place c.loop.rest) c.in_err-path.field-0.0
    (fields.threads c.args.as_runs c.args.count None (place c.args.cursor)) c.loop-test.true (rw last at c.in_err-path.ensures) c.loop.invariant)

pub loop-preserved : goal.loop-preserved
loop-preserved c =
    let last = c.last_name.ensures ∙ ap last_name c.as_slice.ensures.value in
    rw c.in_ok-push.ensures.items (threads_on c.args.as_runs c.loop.threads.items c.args.count c.loop.counter (place c.loop.rest) c.in_ok-path.path
    (place c.in_ok-path.next) (fields.threads c.args.as_runs c.args.count None (place c.args.cursor)) c.loop-test.true (rw last at c.in_ok-path.ensures)
    c.loop.invariant)

pub returns : goal.returns
returns c = threads_done c.args.as_runs c.loop.threads.items c.args.count c.loop.counter (place c.loop.rest)
    (fields.threads c.args.as_runs c.args.count None (place c.args.cursor)) c.loop-test.false c.loop.invariant
