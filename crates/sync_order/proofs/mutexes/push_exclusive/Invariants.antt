use Rattle.std.proofs.Common.{◌≡◌, ◌++◌, flat_map, take}
use Rattle.sync_order.specs.Mutexes.{exclusive}
use Rattle.sync_order.proofs.mutexes.push_exclusive.Given as goal

abbrev pub invariant-loop-other : goal.invariant-loop-other
invariant-loop-other l = l.conjuncts.items ≡ l.fn.conjuncts.items ++ flat_map (exclusive l.events l.region) (take l.other-index l.others)
