use Rattle.std.proofs.Common.{◌≡◌, ◌++◌, drop}
use Rattle.path_walk.specs.Events.{joins_of}
use Rattle.path_walk.proofs.parts.joins.Given as goal

abbrev pub invariant-loop-number : goal.invariant-loop-number
invariant-loop-number l = l.found.items ++ joins_of (drop l.number l.events) ≡ joins_of l.events
