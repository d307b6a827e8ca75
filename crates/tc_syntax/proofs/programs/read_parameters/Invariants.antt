use Rattle.std.proofs.Common.{length}
use Rattle.tc_syntax.proofs.Chains.{AreParameters}
use Rattle.tc_syntax.proofs.programs.read_parameters.Given as goal

-- the parameters read so far and the remaining words
abbrev pub invariant-loop-start : goal.invariant-loop-start
invariant-loop-start l = AreParameters l.words l.found.items l.rest

abbrev pub decreases-loop-start : goal.decreases-loop-start
decreases-loop-start l = length l.rest
