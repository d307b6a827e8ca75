use Rattle.std.proofs.Common.{◌∙◌, [], ap, get_or, length, arith}
use Rattle.order_events.proofs.Numbers.{walks_on}
use Rattle.mutex_regions.proofs.regions.all_regions.Goals as goal

pub loop-thread-preserved : goal.loop-thread-preserved
loop-thread-preserved c =
    let threads = c.args.paths.now.threads in
    let k = c.loop-thread.thread in
    let x = c.walk-item.result in
    let all = c.threads-walk-items.ensures in
    walks_on (λ w. w.regions) threads k x [] c.loop-thread.all.items c.push_items.new.all.items c.regions.result.now
    (omega (arith, c.loop-thread-test.true, ap length all)) (c.walk-item.is ∙ ap (λ cs. get_or cs k x) all) c.regions.ensures c.loop-thread.invariant
    c.in_ok-push_items.ensures
