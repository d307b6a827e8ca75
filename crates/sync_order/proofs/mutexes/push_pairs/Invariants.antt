use Rattle.std.proofs.Common.{◌≡◌, ◌++◌, drop}
use Rattle.sync_order.specs.Mutexes.{exclusive, of_pairs}
use Rattle.sync_order.proofs.mutexes.push_pairs.Given as goal

abbrev pub invariant-loop-place : goal.invariant-loop-place
invariant-loop-place l =
    l.conjuncts.items ++ of_pairs (exclusive l.events) (drop l.place l.regions) ≡ l.fn.conjuncts.items ++ of_pairs (exclusive l.events) l.regions
