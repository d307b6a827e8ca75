use Rattle.std.proofs.Common.{length}
use Rattle.tc_tree.specs.Grammar.{globals_then}
use Rattle.tc_syntax.specs.helpers.Reading.{Globals}
use Rattle.tc_syntax.specs.helpers.Read.{IsPassed, IsAny}
use Rattle.tc_syntax.proofs.programs.read_globals.Given as goal

-- the declarations read so far and the remaining words
abbrev pub invariant-loop-rest : goal.invariant-loop-rest
invariant-loop-rest l = IsPassed globals_then IsAny Globals Globals l.words l.found.items l.rest

abbrev pub decreases-loop-rest : goal.decreases-loop-rest
decreases-loop-rest l = length l.rest
