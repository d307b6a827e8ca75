use Rattle.cdcl_core.proofs.Dropping.{MarksBelow}
use Rattle.cdcl_core.proofs.reducing.reasons_of.Given as goal

abbrev pub invariant-loop-place : goal.invariant-loop-place
invariant-loop-place l = MarksBelow l.trail l.clauses l.place l.marks.items
