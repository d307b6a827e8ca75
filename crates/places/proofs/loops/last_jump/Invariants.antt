use Rattle.places.proofs.Last.{IsLast}
use Rattle.places.proofs.loops.last_jump.Given as goal

abbrev pub invariant-loop-number : goal.invariant-loop-number
invariant-loop-number l = IsLast l.instrs l.number l.first l.last
