use Rattle.std.proofs.Common.{◌+◌, ◌*◌, length}
use Rattle.tc_syntax.proofs.Chains.{IsSoFar}
use Rattle.tc_syntax.proofs.expressions.+expression.Given as goal

abbrev pub decreases-read_expression : goal.decreases-read_expression
decreases-read_expression l = 4 * length l.words.now + 2

abbrev pub decreases-read_tight : goal.decreases-read_tight
decreases-read_tight l = 4 * length l.words.now + 1

abbrev pub decreases-read_operand : goal.decreases-read_operand
decreases-read_operand l = 4 * length l.words.now

abbrev pub decreases-read_variable : goal.decreases-read_variable
decreases-read_variable l = 4 * length l.words.now + 3

abbrev pub decreases-read_paren : goal.decreases-read_paren
decreases-read_paren l = 4 * length l.words.now + 3

abbrev pub decreases-read_unary : goal.decreases-read_unary
decreases-read_unary l = 4 * length l.words.now + 3

-- the expression read so far and the remaining words
abbrev pub invariant-read_tight-loop-operator : goal.invariant-read_tight-loop-operator
invariant-read_tight-loop-operator l = IsSoFar l.least l.words l.left l.rest

abbrev pub decreases-read_tight-loop-operator : goal.decreases-read_tight-loop-operator
decreases-read_tight-loop-operator l = length l.rest
