use Rattle.std.proofs.Common.{◌∙◌}
use Rattle.std.proofs.lemmas.Result.{IfOk-weaker}
use Rattle.mutex_clauses.proofs.steps.Over.{steps_are}
use Rattle.mutex_clauses.proofs.steps.steps.steps_of.Goals as goal

pub returns : goal.returns
returns c =
    let a = c.args in
    IfOk-weaker c.steps.result _ _
    (λ _ so code paths formula m count own all.
    so ∙ steps_are a.symbolic.now a.terms.now a.conjuncts code paths formula m a.variables.now a.accesses.now a.regions.now
    count own all) c.steps.ensures
