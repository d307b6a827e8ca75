use Rattle.condition_order.proofs.Steps.{waits_more}
use Rattle.condition_order.proofs.wait.waits.Goals as goal

pub loop-number-preserved : goal.loop-number-preserved
loop-number-preserved c =
    let more = waits_more c.args.events.now c.all-placed-items.result.now c.loop-number.number _ c.of.result c.loop-number-test.true c.of.ensures in
    let pushed = c.in_ok-push.ensures.items in cc
