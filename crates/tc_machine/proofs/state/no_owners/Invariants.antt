use Rattle.std.proofs.Common.{◌≡◌, replicate, None}
use Rattle.tc_machine.proofs.state.no_owners.Given as goal

abbrev pub invariant-loop-k : goal.invariant-loop-k
invariant-loop-k l = l.owners.items ≡ replicate l._k None
