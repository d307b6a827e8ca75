use Rattle.std.proofs.Common.{◌≡◌, [], ◌∷◌, ◌++◌, ap, ap₂, sym, ◌∙◌, true, false}
use Rattle.mutex_clauses.specs.turns.Turns.{leaves}
use Rattle.mutex_clauses.proofs.turns.Among.{among_in, among_out}
use Rattle.mutex_clauses.proofs.turns.turn.leaving.Goals as goal
use Rattle.mutex_clauses.proofs.turns.turn.leaving.Goals.{then-has_shape+in_ok-push, else-has_shape}

pub loop-region-preserved : goal.loop-region-preserved
loop-region-preserved c =
    let ranked = c.args.ranked.now in
    let steps = c.args.steps.now in
    let i = c.loop-region.region in
    let s = c.index-steps-region.result in
    let p = leaves c.args.shape.now in
    elim c.if-has_shape.branch [
      | then-has_shape+in_ok-push w ↦
          let passes : p s ≡ true = sym c.has_shape.ensures ∙ w.if-has_shape.true in
          ap (λ v. v.items) w.literals-is ∙ w.in_ok-push.ensures.items
          ∙ ap₂ (λ ls l. ls ++ l ∷ []) c.loop-region.invariant w.literal_at.ensures
          ∙ sym (among_in ranked p steps i s c.loop-region-test.true c.index-steps-region.is passes)
      | else-has_shape w ↦
          let fails : p s ≡ false = sym c.has_shape.ensures ∙ w.if-has_shape.false in
          ap (λ v. v.items) w.literals-is ∙ c.loop-region.invariant
          ∙ sym (among_out ranked p steps i s c.loop-region-test.true c.index-steps-region.is fails)
    ]
