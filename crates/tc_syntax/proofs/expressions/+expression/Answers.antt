use Rattle.std.proofs.Common.{[], ◌∷◌}
use Rattle.std.proofs.lemmas.Result.{err_from_is_err_and}
use Rattle.tc_syntax.specs.helpers.Reading.{Operand, Operators}
use Rattle.tc_syntax.proofs.Stacks.{goes}
use Rattle.tc_syntax.proofs.Chains.{one_more_operand, operand_goes, whole}
use Rattle.tc_syntax.proofs.expressions.+expression.Goals as goal

pub read_expression-returns : goal.read_expression-returns
read_expression-returns t c = whole c.args.words.now c.in_ok-expression.expression c.in_ok-expression.rest.now c.in_ok-expression.ensures

pub read_tight-loop-operator-preserved : goal.read_tight-loop-operator-preserved
read_tight-loop-operator-preserved t c =
    let h = one_more_operand c.args.least c.args.words.now c.loop-operator.left c.loop-operator.rest.now c.in-Some.operator
    c.in-Some.after.now c.in_ok-right.right c.in_ok-right.after.now c.loop-operator.invariant c.in-Some.ensures.0
    c.in-Some.ensures.1 (rw c.level.ensures at c.in_ok-right.ensures) in
    rw c.in_ok-left-2.ensures h

pub read_tight-returns-in_err-right : goal.read_tight-returns-in_err-right
read_tight-returns-in_err-right t c =
    let p = err_from_is_err_and c.from_residual-in_err-right.result c.from_residual-in_err-right.ensures.1 in
    rw (p.1, p.2) (goes (Operand ∷ Operators ∷ []) (Operand ∷ Operators ∷ []) c.args.words.now c.in-Some.after.now c.in_err-right.field-0.0
    (λ s. operand_goes c.args.least c.args.words.now c.loop-operator.left c.loop-operator.rest.now c.in-Some.operator
    c.in-Some.after.now c.loop-operator.invariant c.in-Some.ensures.0 s) c.in_err-right.ensures)
