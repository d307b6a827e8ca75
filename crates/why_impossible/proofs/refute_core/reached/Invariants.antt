use Rattle.std.proofs.Common.{length}
use Rattle.why_impossible.proofs.refute_core.Backwards.{AreSwept}
use Rattle.why_impossible.proofs.refute_core.reached.Given as goal

abbrev pub invariant-loop-place : goal.invariant-loop-place
invariant-loop-place l = AreSwept (length l.cnf.clauses) l.derivation l.marks.items l.place
