use Rattle.std.proofs.Common.{length, map}
use Rattle.tc_tree.specs.Grammar.{threads_then, AreWellThreads}
use Rattle.tc_tree.specs.Seen.{thread_of}
use Rattle.tc_syntax.specs.helpers.Reading.{Threads}
use Rattle.tc_syntax.specs.helpers.Read.{IsPassed}
use Rattle.tc_syntax.proofs.programs.read_threads.Given as goal

-- the threads read so far and the remaining words
abbrev pub invariant-loop-start : goal.invariant-loop-start
invariant-loop-start l = IsPassed threads_then AreWellThreads Threads Threads l.words (map thread_of l.found.items) l.rest

abbrev pub decreases-loop-start : goal.decreases-loop-start
decreases-loop-start l = length l.rest
