use Rattle.std.proofs.Common.{◌∙◌, [], ◌++◌, map, length, get_or, ap, arith}
use Rattle.order_events.proofs.Loops.{each_more}
use Rattle.clap_system.specs.Tests.{test_conjunct}
use Rattle.clap_system.proofs.conjuncts.test_conjuncts.Goals as goal

pub loop-thread-preserved : goal.loop-thread-preserved
loop-thread-preserved c =
    let courses = c.args.symbolic.now.threads in
    let thread = c.loop-thread.thread in
    let course = c.course-item.result in
    let mid = c.loop-thread.conjuncts.items in
    let all = c.threads-course-items.ensures in
    each_more courses thread course (omega (arith, c.loop-thread-test.true, ap length all)) (c.course-item.is ∙ ap (λ cs. get_or cs thread course) all)
    [] mid c.push_tests.new.conjuncts.items (λ t k. map (test_conjunct t) k.tests) c.loop-thread.invariant
    (c.in_ok-push_tests.ensures ∙ ap (λ xs. mid ++ map (test_conjunct thread) xs) c.tests.ensures)
