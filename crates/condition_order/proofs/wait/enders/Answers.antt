use Rattle.std.proofs.Common.{◌∙◌, ap, ◌++◌, [], take}
use Rattle.std.specs.List.{cons_option}
use Rattle.std.proofs.lemmas.List.{append-nil}
use Rattle.condition_order.specs.Conditions.{enders}
use Rattle.condition_order.proofs.Steps.{enders_more}
use Rattle.condition_order.proofs.wait.enders.Goals as goal
use Rattle.condition_order.proofs.wait.enders.Goals.{in-Some+in_ok-push, in_default}

pub loop-number-preserved : goal.loop-number-preserved
loop-number-preserved c =
    let all = c.all-placed-items.result.now in
    let before = enders (take c.loop-number.number all) c.args.condition in
    let more = enders_more c.args.condition all c.loop-number.number _ c.by.result c.loop-number-test.true c.by.ensures in
    elim c.match-by.branch [
      | in-Some+in_ok-push w ↦
          let next = more ∙ ap (λ o. before ++ cons_option o []) w.in-Some.is in
          let pushed = w.in_ok-push.ensures.items in cc
      | in_default w ↦
          let next = more ∙ ap (λ o. before ++ cons_option o []) w.in_default.is ∙ append-nil before in cc
    ]
