use Rattle.std.proofs.Common.{◌∙◌, ap, sym}
use Rattle.path_walk.specs.Paths.{Paths}
use Rattle.dead_paths.proofs.Finding.{cause_here, cause_past}
use Rattle.dead_paths.proofs.cause.first_cause.Goals as goal

pub returns-in-Some : goal.returns-in-Some
returns-in-Some c =
    cause_here c.args.code.now c.args.log.now.log c.threads-thread-items.result.now
    (c.threads-thread-items.ensures ∙ ap (λ (p : Paths). p.threads) c.requires) c.loop-thread.thread-index c.thread-item.result c.loop-thread-test.true
    c.thread-item.is c.in_ok-line.field-0 c.function.result c.fails-fails.result c.name.result.now c.places.result.now c.in_ok-line.ensures
    c.function.ensures c.name.ensures c.fails-fails.ensures c.places.ensures c.in_ok-clone.field-0 c.in-Some.line c.in-Some.is
    (c.in_ok-clone.ensures.cases ∙ c.name-in-Some.ensures)
    ∙ sym c.loop-thread.invariant

pub loop-thread-preserved : goal.loop-thread-preserved
loop-thread-preserved c =
    c.loop-thread.invariant
    ∙ cause_past c.args.code.now c.args.log.now.log c.threads-thread-items.result.now
    (c.threads-thread-items.ensures ∙ ap (λ (p : Paths). p.threads) c.requires) c.loop-thread.thread-index c.thread-item.result c.loop-thread-test.true
    c.thread-item.is c.in_ok-line.field-0 c.function.result c.fails-fails.result c.name.result.now c.places.result.now c.in_ok-line.ensures
    c.function.ensures c.name.ensures c.fails-fails.ensures c.places.ensures c.in_default.is
