use Rattle.mutex_clauses.proofs.Next.{AreFirst}
use Rattle.mutex_clauses.proofs.log.Log.add_all.Given as goal

abbrev pub invariant-loop-number : goal.invariant-loop-number
invariant-loop-number l = AreFirst l.self l.initial.circuit l.number l.circuit l.room
