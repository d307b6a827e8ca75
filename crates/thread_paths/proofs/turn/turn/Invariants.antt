use Rattle.std.proofs.Common.{vec_len}
use Rattle.thread_paths.proofs.Outcomes.{IsPopped}
use Rattle.thread_paths.proofs.turn.turn.Given as goal

abbrev pub invariant-loop-last : goal.invariant-loop-last
invariant-loop-last l = IsPopped l.fn.outcomes.items l.outcomes.items

abbrev pub decreases-loop-last : goal.decreases-loop-last
decreases-loop-last l = vec_len l.outcomes
