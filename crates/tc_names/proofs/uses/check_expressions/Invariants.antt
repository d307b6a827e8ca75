use Rattle.std.proofs.Common.{◌≡◌, drop}
use Rattle.tc_names.specs.Names.{expressions_fault}
use Rattle.tc_names.specs.helpers.Answers.{plain_scope}
use Rattle.tc_names.proofs.uses.check_expressions.Given as goal

-- the fault is that of the remaining expressions
abbrev pub invariant-loop-expression : goal.invariant-loop-expression
invariant-loop-expression l =
    expressions_fault (plain_scope l.scope) l.expressions
    ≡ expressions_fault (plain_scope l.scope) (drop l.expression-index l.expressions)
