use Rattle.std.proofs.Common.{arith}
use Rattle.std.proofs.lemmas.Result.{err_from_is_err_and}
use Rattle.path_log.specs.Fields.{two, runs_of}
use Rattle.path_log.specs.helpers.Reading.{place}
use Rattle.path_log.proofs.Loops.{runs_begin, runs_on, runs_fail, runs_done, within}
use Rattle.path_log.proofs.outcomes.runs_from.Goals as goal

pub loop-left-init : goal.loop-left-init
loop-left-init c = rw c.new-outcomes.ensures.items (runs_begin c.args.first c.args.count (place c.args.cursor))

pub returns-in_err-run : goal.returns-in_err-run
returns-in_err-run c =
    let p = err_from_is_err_and c.from_residual.result c.from_residual.ensures.1 in
    rw (p.1, p.2) (runs_fail c.in_err-run.field-0.0 c.loop-left.outcomes.items c.loop-left.outcome c.loop-left.left (place c.loop-left.rest)
    (runs_of c.args.first c.args.count (place c.args.cursor)) c.loop-left.invariant (omega arith) c.in_err-run.ensures)

pub overflow_sub-left : goal.overflow_sub-left
overflow_sub-left c = (within 1 c.loop-left.left two (place c.loop-left.rest) (c.in_ok-run.run', place c.in_ok-run.next) c.in_ok-run.ensures).1

pub loop-left-preserved : goal.loop-left-preserved
loop-left-preserved c = runs_on c.loop-left.outcomes.items c.loop-left.outcome c.loop-left.left (place c.loop-left.rest) c.in_ok-run.run'
    (place c.in_ok-run.next) c.push_run.new.outcomes.items (runs_of c.args.first c.args.count (place c.args.cursor)) c.loop-left.invariant (omega arith)
    c.in_ok-run.ensures c.in_ok-push_run.ensures

pub loop-left-smaller : goal.loop-left-smaller
loop-left-smaller c =
    let bounds = within 1 c.loop-left.left two (place c.loop-left.rest) (c.in_ok-run.run', place c.in_ok-run.next) c.in_ok-run.ensures in
    omega arith

pub returns : goal.returns
returns c = runs_done c.loop-left.outcomes.items c.loop-left.outcome c.loop-left.left (place c.loop-left.rest)
    (runs_of c.args.first c.args.count (place c.args.cursor)) c.loop-left.invariant (omega arith)
