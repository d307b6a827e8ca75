use Rattle.std.proofs.Common.{◌≡◌, ◌++◌, drop}
use Rattle.log_walk.proofs.rest.add_others.Given as goal

abbrev pub invariant-loop-place : goal.invariant-loop-place
invariant-loop-place l = l.awaited.items ++ drop l.place l.rest ≡ l.fn.awaited.items ++ drop 1 l.rest
