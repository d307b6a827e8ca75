use Rattle.std.proofs.Common.{◌≡◌, ◌-◌, ◌++◌, length, replicate}
use Rattle.sym_exec.proofs.thread.padded.Given as goal

-- the terms so far and the missing ones are all terms
abbrev pub invariant-loop-other : goal.invariant-loop-other
invariant-loop-other l = l.all.items ++ replicate (l.count - length l.all.items) l.other ≡ l.terms ++ replicate (l.count - length l.terms) l.other

abbrev pub decreases-loop-other : goal.decreases-loop-other
decreases-loop-other l = l.count - length l.all.items
