use Rattle.std.proofs.Common.{◌∙◌, ◌+◌, ◌-◌, ap, sym, arith, drop}
use Rattle.std.proofs.lemmas.Grind.{common_steps}
use Rattle.path_walk.specs.Steps.{places_from}
use Rattle.path_walk.specs.helpers.Accounts.{prefixed}
use Rattle.path_walk.proofs.Places.{past_exit, short, step_more, end_more, end_here, prefixed_before, left_over, all_done}
use Rattle.path_walk.proofs.follow.steps.Goals as goal

pub returns-in_default-clause-told : goal.returns-in_default-clause-told
returns-in_default-clause-told c =
    sym c.loop-step.invariant.told
    ∙ ap (prefixed c.loop-step.places.items) (past_exit c.args.code.now c.args.function _ c.loop-step.at.place _ (omega arith) (sym c.in_default.ensures.seen))

pub returns-in_default-onward-clause-told : goal.returns-in_default-onward-clause-told
returns-in_default-onward-clause-told c =
    sym c.loop-step.invariant.told
    ∙ ap (prefixed c.loop-step.places.items)
    (short c.args.code.now c.args.function _ c.loop-step.at.place _ _ (omega arith) (sym c.in-Some.ensures.seen) (sym c.in_default-onward.ensures))

pub loop-step-preserved : goal.loop-step-preserved
loop-step-preserved c =
    let more = step_more c.args.code.now c.args.function (c.args.path.now.path.steps - c.loop-step.step) (c.args.path.now.path.steps - (c.loop-step.step + 1))
    c.loop-step.at.place (drop c.loop-step.at.used c.outcomes-outcomes.result.now) _ _ (omega arith) (sym c.in-Some.ensures.seen)
    (sym c.in-Some-onward.ensures) in
    record {
      told =
          ap (λ xs. prefixed xs (places_from c.args.code.now c.args.function (c.args.path.now.path.steps - (c.loop-step.step + 1))
          c.in-Some-onward.next.place (drop c.in-Some-onward.next.used c.outcomes-outcomes.result.now))) c.in_ok-push.ensures.items
          ∙ sym (prefixed_before c.loop-step.places.items c.loop-step.at.place _)
          ∙ ap (prefixed c.loop-step.places.items) (sym more)
          ∙ c.loop-step.invariant.told;
      end =
          sym (end_more c.args.code.now c.args.function (c.args.path.now.path.steps - c.loop-step.step) (c.args.path.now.path.steps - (c.loop-step.step + 1))
          c.loop-step.at.place (drop c.loop-step.at.used c.outcomes-outcomes.result.now) _ _ (omega arith) (sym c.in-Some.ensures.seen)
          (sym c.in-Some-onward.ensures))
          ∙ c.loop-step.invariant.end;
      count = grind (arith, common_steps);
    }

pub returns-then-at-outcomes-clause-told : goal.returns-then-at-outcomes-clause-told
returns-then-at-outcomes-clause-told c =
    sym c.loop-step.invariant.told
    ∙ ap (prefixed c.loop-step.places.items)
    (left_over c.args.code.now c.args.function _ c.loop-step.at.place c.loop-step.at.used c.outcomes-outcomes.result.now (omega arith) c.if-at-outcomes.true)

pub returns-clause-told : goal.returns-clause-told
returns-clause-told c =
    sym c.loop-step.invariant.told
    ∙ all_done c.args.code.now c.args.function _ c.loop-step.at.place c.loop-step.at.used c.outcomes-outcomes.result.now c.loop-step.places.items
    (omega arith) c.if-at-outcomes.false

pub returns-clause-end : goal.returns-clause-end
returns-clause-end c =
    sym (end_here c.args.code.now c.args.function _ c.loop-step.at.place (drop c.loop-step.at.used c.outcomes-outcomes.result.now) (omega arith))
    ∙ c.loop-step.invariant.end
