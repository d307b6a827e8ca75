use Rattle.std.proofs.Common.{ℕ, List, length, subst, sym}
use Rattle.std.specs.Prelude.{IsTrue}
use Rattle.tc_code.specs.Expr.{names_slots}
use Rattle.mutex_clauses.specs.shapes.helpers.Pooled.{AllOf, IsNamed}
use Rattle.mutex_clauses.proofs.shapes.pool.Pool.add_steps.Goals as goal

pub add_step-requires : goal.add_step-requires
add_step-requires c =
    let step = c.step-item.result in
    let there : AllOf (IsNamed c.args.self.now) step =
    subst (AllOf (IsNamed c.args.self.now)) (sym c.step-item.is) (c.requires c.loop-step.step-index step c.loop-step-test.true) in
    subst (λ (slots : List ℕ). AllOf (λ e. IsTrue (names_slots (length slots) e)) step) (sym c.loop-step.invariant.slots) there
