use Rattle.std.proofs.Common.{◌≡◌, take}
use Rattle.mutex_clauses.specs.in_order.Given.{used_in}
use Rattle.mutex_clauses.proofs.in_order.literals.used_of.Given as goal

abbrev pub invariant-loop-region : goal.invariant-loop-region
invariant-loop-region l = l.used.items ≡ used_in l.variables l.accesses (take l.region-index l.regions)
