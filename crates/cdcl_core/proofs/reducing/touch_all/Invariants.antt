use Rattle.std.proofs.Common.{◌≡◌}
use Rattle.cdcl_core.proofs.reducing.touch_all.Given as goal

abbrev pub invariant-loop-clause : goal.invariant-loop-clause
invariant-loop-clause l = l.clauses ≡ l.initial.clauses
