use Rattle.std.proofs.Common.{length}
use Rattle.next_tokens.specs.Next.{GoesOnWith, all_kinds}
use Rattle.next_tokens.proofs.Picks.{IsSoFar}
use Rattle.next_tokens.proofs.stuck.kinds_after.Given as goal

-- the kinds found so far, together with those of the rest, are all kinds
abbrev pub invariant-loop-kind : goal.invariant-loop-kind
invariant-loop-kind l = IsSoFar (GoesOnWith l.text l.before) all_kinds l.found.items l.rest

abbrev pub decreases-loop-kind : goal.decreases-loop-kind
decreases-loop-kind l = length l.rest
