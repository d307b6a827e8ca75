use Rattle.std.proofs.Common.{◌≡◌, ◌++◌, take}
use Rattle.std.specs.Prelude.{filter}
use Rattle.mutex_regions.specs.Functions.{is_used}
use Rattle.mutex_clauses.proofs.in_order.literals.push_used.Given as goal

abbrev pub invariant-loop-access : goal.invariant-loop-access
invariant-loop-access l = l.used.items ≡ l.fn.used.items ++ filter (is_used l.variables l.region) (take l.access-index l.accesses)
