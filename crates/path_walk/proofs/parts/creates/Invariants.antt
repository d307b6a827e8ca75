use Rattle.std.proofs.Common.{◌≡◌, ◌++◌, drop}
use Rattle.path_walk.specs.Events.{creates_of}
use Rattle.path_walk.proofs.parts.creates.Given as goal

abbrev pub invariant-loop-number : goal.invariant-loop-number
invariant-loop-number l = l.found.items ++ creates_of (drop l.number l.events) ≡ creates_of l.events
