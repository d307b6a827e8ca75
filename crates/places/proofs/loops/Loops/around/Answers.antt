use Rattle.std.proofs.Common.{◌∙◌, ◌∷◌, ◌++◌, [], sym, ap}
use Rattle.places.specs.helpers.Jumps.{is_around_by}
use Rattle.places.proofs.Last.{kept, left}
use Rattle.places.proofs.loops.Loops.around.Goals as goal
use Rattle.places.proofs.loops.Loops.around.Goals.{then-is_around+in_ok-push, else-is_around}

pub loop-first-preserved : goal.loop-first-preserved
loop-first-preserved c =
    let P = is_around_by c.args.self.now c.args.at in
    let n = c.loop-first.first in
    elim c.if-is_around.branch [
      | then-is_around+in_ok-push w ↦ ap (λ v. v.items) w.firsts-is ∙ w.in_ok-push.ensures.items ∙ ap (λ bs. bs ++ n ∷ []) c.loop-first.invariant
          ∙ sym (kept P n (sym w.if-is_around.ensures))
      | else-is_around w ↦ ap (λ v. v.items) w.firsts-is ∙ c.loop-first.invariant ∙ sym (left P n (sym w.if-is_around.ensures))
    ]
