use Rattle.std.proofs.Common.{length}
use Rattle.tc_syntax.proofs.Chains.{AreSome}
use Rattle.tc_syntax.proofs.expressions.read_arguments.Given as goal

-- the arguments read so far and the remaining words
abbrev pub invariant-loop-start : goal.invariant-loop-start
invariant-loop-start l = AreSome l.words l.found.items l.rest

abbrev pub decreases-loop-start : goal.decreases-loop-start
decreases-loop-start l = length l.rest
