use Rattle.std.proofs.Common.{◌≡◌, ◌++◌, drop}
use Rattle.path_walk.specs.Events.{sleeps_of}
use Rattle.path_walk.proofs.parts.sleeps.Given as goal

abbrev pub invariant-loop-number : goal.invariant-loop-number
invariant-loop-number l = l.found.items ++ sleeps_of (drop l.number l.events) ≡ sleeps_of l.events
