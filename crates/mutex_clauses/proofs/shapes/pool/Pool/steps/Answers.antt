use Rattle.std.proofs.Common.{subst, sym}
use Rattle.mutex_clauses.specs.shapes.helpers.Pooled.{AllOf, IsIn}
use Rattle.mutex_clauses.proofs.shapes.pool.Pool.steps.Goals as goal

pub step-requires : goal.step-requires
step-requires c =
    let step = c.step-item.result in
    subst (λ p. AllOf (IsIn p) step) (sym c.loop-step.invariant.same)
    (subst (AllOf (IsIn c.args.self.now)) (sym c.step-item.is) (c.requires c.loop-step.step-index step c.loop-step-test.true))
