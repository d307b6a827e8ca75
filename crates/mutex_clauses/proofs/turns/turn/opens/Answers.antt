use Rattle.std.proofs.Common.{◌≡◌, [], ◌∷◌, ◌++◌, ap, ap₂, sym, ◌∙◌, true, false}
use Rattle.std.specs.Prelude.{not}
use Rattle.mutex_clauses.specs.shapes.Termed.{Termed}
use Rattle.mutex_clauses.specs.turns.Turns.{is_open}
use Rattle.mutex_clauses.proofs.turns.Among.{among_in, among_out}
use Rattle.mutex_clauses.proofs.turns.turn.opens.Goals as goal
use Rattle.mutex_clauses.proofs.turns.turn.opens.Goals.{then-not-step+in_ok-push, else-not-step}

pub loop-region-preserved : goal.loop-region-preserved
loop-region-preserved c =
    let ranked = c.args.ranked.now in
    let steps = c.args.steps.now in
    let i = c.loop-region.region in
    let s : Termed = c.index-steps-region.result in
    let closed : c.step.inside.is_closed ≡ s.is_closed = ap (λ (x : Termed). x.is_closed) c.step.view_is in
    elim c.if-not-step.branch [
      | then-not-step+in_ok-push w ↦
          let passes : is_open s ≡ true = ap not (sym closed ∙ w.if-not-step.true) in
          ap (λ v. v.items) w.literals-is ∙ w.in_ok-push.ensures.items
          ∙ ap₂ (λ ls l. ls ++ l ∷ []) c.loop-region.invariant w.literal_at.ensures
          ∙ sym (among_in ranked is_open steps i s c.loop-region-test.true c.index-steps-region.is passes)
      | else-not-step w ↦
          let fails : is_open s ≡ false = ap not (sym closed ∙ w.if-not-step.false) in
          ap (λ v. v.items) w.literals-is ∙ c.loop-region.invariant
          ∙ sym (among_out ranked is_open steps i s c.loop-region-test.true c.index-steps-region.is fails)
    ]
