use Rattle.std.proofs.Common.{◌≡◌, replicate}
use Rattle.std.specs.FinSet as set
use Rattle.tc_machine.proofs.state.no_waiters.Given as goal

abbrev pub invariant-loop-k : goal.invariant-loop-k
invariant-loop-k l = l.waiters.items ≡ replicate l._k set.empty
