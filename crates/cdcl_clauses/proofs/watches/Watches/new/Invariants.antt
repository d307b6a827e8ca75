use Rattle.std.proofs.Common.{◌≡◌, [], replicate}
use Rattle.cdcl_clauses.proofs.Lists.{lists_of}
use Rattle.cdcl_clauses.proofs.watches.Watches.new.Given as goal

abbrev pub invariant-loop : goal.invariant-loop
invariant-loop l = lists_of l.lists.items ≡ replicate l.counter []
