use Rattle.std.proofs.Common.{◌∙◌, [], ap, get_or, length, arith}
use Rattle.order_events.proofs.Numbers.{walks_on}
use Rattle.read_write.proofs.accesses.all_accesses.Goals as goal

pub loop-thread-preserved : goal.loop-thread-preserved
loop-thread-preserved c =
    let threads = c.args.symbolic.now.threads in
    let k = c.loop-thread.thread in
    let x = c.course-item.result in
    let all = c.threads-course-items.ensures in
    walks_on (λ w. w.accesses) threads k x [] c.loop-thread.all.items c.push_items.new.all.items c.accesses.result.now
    (omega (arith, c.loop-thread-test.true, ap length all)) (c.course-item.is ∙ ap (λ cs. get_or cs k x) all) c.accesses.ensures c.loop-thread.invariant
    c.in_ok-push_items.ensures
