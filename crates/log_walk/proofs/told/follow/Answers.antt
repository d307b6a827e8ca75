use Rattle.std.proofs.Common.{◌∙◌, ◌≡◌, ◌+◌, ◌-◌, ap, sym, arith, drop, length}
use Rattle.tc_base.specs.Paths.{Path}
use Rattle.log_walk.specs.Told.{Told, told_by, told_from}
use Rattle.log_walk.proofs.Follows.{one_more, past, short, more}
use Rattle.log_walk.proofs.told.follow.Goals as goal

pub returns-in_default-clause-told : goal.returns-in_default-clause-told
returns-in_default-clause-told c =
    sym (past c.args.code.now c.args.function _ c.loop-step.told _ (omega (arith, ap (λ (t : Told). t.place) c.told.view_is)) _
    (sym c.in_default.ensures.seen))
    ∙ c.loop-step.invariant.told

pub returns-in_default-onward-clause-told : goal.returns-in_default-onward-clause-told
returns-in_default-onward-clause-told c =
    let view = ap (λ (p : Path). p.outcomes) c.path.view_is in
    let slice = c.as_slice-outcomes.ensures.value in
    let same : drop c.loop-step.used c.args.path.now.outcomes ≡ drop c.loop-step.used c.as_slice-outcomes.result.now = cc in
    sym (short c.args.code.now c.args.function (drop c.loop-step.used c.args.path.now.outcomes) c.loop-step.told _
    (omega (arith, ap (λ (t : Told). t.place) c.told.view_is)) (drop c.loop-step.used c.as_slice-outcomes.result.now) same
    c.in-Some.instr.now (sym c.in-Some.ensures.seen) _ (sym c.in_default-onward.ensures))
    ∙ c.loop-step.invariant.told

pub loop-step-preserved : goal.loop-step-preserved
loop-step-preserved c =
    let view = ap (λ (p : Path). p.outcomes) c.path.view_is in
    let slice = c.as_slice-outcomes.ensures.value in
    let same : drop c.loop-step.used c.args.path.now.outcomes ≡ drop c.loop-step.used c.as_slice-outcomes.result.now = cc in
    let after : drop c.in-Some-onward.next.used c.args.path.now.outcomes ≡ drop c.in-Some-onward.next.used c.as_slice-outcomes.result.now = cc in
    record {
      told =
          ap (λ (t : Told). told_from c.args.code.now c.args.function (c.args.path.now.steps - (c.loop-step.step + 1))
          (drop c.in-Some-onward.next.used c.args.path.now.outcomes) t) c.in_ok-apply.ensures
          ∙ ap (λ o. told_from c.args.code.now c.args.function (c.args.path.now.steps - (c.loop-step.step + 1)) o
          (told_by c.loop-step.told c.in-Some.instr.now c.in-Some-onward.next.place)) after
          ∙ sym (more c.args.code.now c.args.function (drop c.loop-step.used c.args.path.now.outcomes) c.loop-step.told _
          (omega (arith, ap (λ (t : Told). t.place) c.told.view_is)) (drop c.loop-step.used c.as_slice-outcomes.result.now) same
          c.in-Some.instr.now (sym c.in-Some.ensures.seen)
          (c.args.path.now.steps - c.loop-step.step) (c.args.path.now.steps - (c.loop-step.step + 1)) _
          (omega (arith, ap (λ (p : Path). p.steps) c.path.view_is)) (sym c.in-Some-onward.ensures))
          ∙ c.loop-step.invariant.told;
      few = omega (
        arith,
        c.loop-step.invariant.few,
        ap (λ (t : Told). length t.created) c.in_ok-apply.ensures,
        one_more c.loop-step.told c.in-Some.instr.now c.in-Some-onward.next.place,
      );
    }
