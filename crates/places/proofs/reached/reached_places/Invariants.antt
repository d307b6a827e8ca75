use Rattle.std.proofs.Common.{◌≤◌, ◌-◌, length}
use Rattle.places.proofs.Search.{Goes}
use Rattle.places.proofs.reached.reached_places.Given as goal

abbrev pub invariant-loop-place : goal.invariant-loop-place
invariant-loop-place l = (length l.places.items ≤ l.most) × Goes l.instrs l.limits l.places.items l.waiting.entries

abbrev pub decreases-loop-place : goal.decreases-loop-place
decreases-loop-place l = l.most - length l.places.items
